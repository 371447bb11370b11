pub mod Rounded
pub mod Ordered
pub mod Modes
pub mod Made
