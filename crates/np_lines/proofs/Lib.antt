pub mod HoldingLaws
pub mod LastLaws
pub mod LineReading
pub mod SkippedLines
