pub mod RespectLaws
pub mod Searching
pub mod AuthAnswers
pub mod ReadableSets
pub mod ConfAnswers
