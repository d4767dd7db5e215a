pub mod Choosing
pub mod Dropping
pub mod Synthesis
pub mod Steps
pub mod Headers
pub mod Existence
pub mod Lifting
