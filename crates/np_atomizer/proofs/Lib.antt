pub mod SplitLaws
pub mod AtomLaws
pub mod SetLaws
pub mod ClassLists
pub mod ClassLaws
pub mod KeepingAtoms
