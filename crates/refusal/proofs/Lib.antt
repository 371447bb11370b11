pub mod Firsts
pub mod Nans
pub mod Sizes
pub mod Tiles
pub mod Views
pub mod Outcomes
