pub mod Levels
pub mod SignedBytes
