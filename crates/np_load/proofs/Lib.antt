mod Loads
mod NotedLaws
pub mod OnceLaws
pub mod CleanLaws
