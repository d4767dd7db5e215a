pub mod AnswerLaws
pub mod NotingLaws
pub mod OutletLaws
pub mod RangeLaws
pub mod SetLaws
pub mod SoundLaws
