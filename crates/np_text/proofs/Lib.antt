pub mod AddressLaws
pub mod AppendLaws
pub mod JoinedLaws
pub mod LineLaws
pub mod NumberLaws
pub mod PlaceLaws
pub mod WordLaws
pub mod WrittenLaws
