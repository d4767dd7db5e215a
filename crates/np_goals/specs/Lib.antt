pub mod Verdicts
pub mod Cases
pub mod Judging
pub mod Sources
pub mod Making
pub mod Existence
