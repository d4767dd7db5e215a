pub mod Judging
pub mod States
pub mod Refusals
pub mod Laws
pub mod Replaying
pub mod Travelling
pub mod Breaching
pub mod Sighting
