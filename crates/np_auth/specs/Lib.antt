pub mod Rules
pub mod Passages
pub mod Answers
pub mod Searches
