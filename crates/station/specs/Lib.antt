pub mod Editions
pub mod Receiving
pub mod Histories
