pub mod Checks
pub mod Calls
pub mod Word
