pub mod Rules
pub mod Outlets
pub mod Answers
pub mod Sets
