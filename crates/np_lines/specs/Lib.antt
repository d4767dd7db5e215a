pub mod Answers
pub mod Declaring
pub mod Judging
pub mod Reading
pub mod Skipping
