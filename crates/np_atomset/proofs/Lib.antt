pub mod Answered
pub mod Bits
pub mod Held
pub mod Sets
pub mod Written
