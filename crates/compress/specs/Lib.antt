pub mod Inter6
pub mod Sorted
pub mod Inter4
pub mod LastMove
pub mod Network
