pub mod Cuts
pub mod Respecting
pub mod Existence
pub mod Findings
