pub mod ApplyLaws
pub mod CuttingLaws
pub mod FieldLaws
pub mod FilterLaws
pub mod KeyLaws
pub mod MakingLaws
