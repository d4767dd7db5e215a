pub mod CountingLaws
pub mod DeclarationLaws
pub mod EntryLines
pub mod LineReading
pub mod NewNumberLaws
pub mod NumberedLaws
pub mod RoomLaws
pub mod SayingLaws
