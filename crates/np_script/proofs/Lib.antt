pub mod LineReading
pub mod SayingLaws
pub mod ShapeLaws
pub mod WordsBack
