pub mod AtomSet
