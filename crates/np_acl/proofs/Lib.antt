pub mod ListLaws
pub mod SameLaws
