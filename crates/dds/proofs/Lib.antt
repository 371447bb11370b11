pub mod Headers
pub mod Files
pub mod Room
pub mod ReadBack
pub mod Determined
