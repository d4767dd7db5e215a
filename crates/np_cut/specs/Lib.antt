pub mod Applying
pub mod Cutting
pub mod FieldTests
pub mod FilterCuts
pub mod AppliedLists
pub mod Making
