pub mod Configs
pub mod Network
