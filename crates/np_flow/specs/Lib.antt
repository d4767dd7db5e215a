pub mod Postures
pub mod Carrying
pub mod Spread
pub mod Distances
pub mod Finding
