pub mod Search
pub mod Covered
pub mod Floor
