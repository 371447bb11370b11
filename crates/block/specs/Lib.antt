pub mod Samples
pub mod Orders
pub mod Block
