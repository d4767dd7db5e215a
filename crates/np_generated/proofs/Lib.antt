mod DrawnLaws
mod EntryLaws
pub mod ConfigLaws
mod NetWords
mod NetMade
pub mod NetLaws
mod ReadingLaws
