pub mod AtomLaws
