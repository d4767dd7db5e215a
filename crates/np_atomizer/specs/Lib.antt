pub mod AtomList
pub mod ClassAtoms
pub mod Numbers
pub mod Splitting
