pub mod Addresses
pub mod Appending
pub mod Joined
pub mod Lines
pub mod Numbers
pub mod Views
pub mod Words
