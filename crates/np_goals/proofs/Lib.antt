pub mod StepLaws
pub mod SourceLaws
pub mod CaseLaws
pub mod MakingLaws
pub mod ExistenceLaws
pub mod Sent
