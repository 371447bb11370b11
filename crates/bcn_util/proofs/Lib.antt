pub mod DitherLaws
pub mod TargetLaws
