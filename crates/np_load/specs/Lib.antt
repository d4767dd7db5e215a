pub mod Limits
pub mod Keeping
pub mod Saying
pub mod Inputs
pub mod Loaded
pub mod Loading
pub mod Noting
pub mod CleanRun
