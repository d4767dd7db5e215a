pub mod Canonical
pub mod CanonicalText
