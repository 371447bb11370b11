pub mod Steps
pub mod Between
pub mod EveryPair
pub mod PassedOver
pub mod FirstRow
pub mod Start
pub mod Covered
