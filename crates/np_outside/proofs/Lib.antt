pub mod Counting
pub mod Kept
pub mod Passed
pub mod Pieces
pub mod Reading
