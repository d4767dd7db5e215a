pub mod Words
pub mod Spans
pub mod Entries
pub mod Canonical
