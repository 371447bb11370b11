pub mod RoundLaws
pub mod Limits
pub mod Rounding
pub mod Listed
