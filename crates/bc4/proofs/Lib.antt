pub mod Resends
pub mod Determined
