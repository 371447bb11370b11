pub mod Meaning
pub mod Exact
pub mod BlockError
