pub mod Names
pub mod Refusals
