pub mod Fill
pub mod Made
pub mod Lanes
pub mod Extremes
pub mod Laws
