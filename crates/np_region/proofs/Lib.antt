pub mod BlockListLemmas
pub mod KeepingLemmas
