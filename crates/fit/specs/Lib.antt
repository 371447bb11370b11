pub mod Fit
pub mod Lanes
