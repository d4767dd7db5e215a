pub mod AnswerLaws
pub mod PassageLaws
pub mod SearchLaws
pub mod SoundLaws
