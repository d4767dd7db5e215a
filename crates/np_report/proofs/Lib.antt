pub mod AtomLaws
pub mod TextLaws
pub mod HeaderLaws
pub mod RunLaws
pub mod DropLaws
pub mod SynthesisLaws
pub mod SummaryLaws
