pub mod Keeping
pub mod BlockLists
