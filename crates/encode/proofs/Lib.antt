pub mod Middle
pub mod Searched
