pub mod ListLaws
pub mod NamingLaws
pub mod RangeLaws
