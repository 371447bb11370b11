pub mod Levels
pub mod EndPoints
