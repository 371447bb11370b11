pub mod Indexes
pub mod Layout
