pub mod Judging
pub mod Saying
pub mod Reading
pub mod Fitting
pub mod Written
