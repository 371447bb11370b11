pub mod Calls
pub mod Word
