pub mod Tables
pub mod Steps
pub mod Trajectories
pub mod Depth
pub mod Goals
pub mod Searching
pub mod Alike
