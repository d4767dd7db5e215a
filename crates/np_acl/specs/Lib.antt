pub mod Entries
pub mod Same
pub mod Spans
pub mod Tables
