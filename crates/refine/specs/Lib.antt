pub mod Rounds
pub mod Refining
pub mod Candidates
