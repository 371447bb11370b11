pub mod Arithmetic
pub mod Helpers
pub mod Bounds
