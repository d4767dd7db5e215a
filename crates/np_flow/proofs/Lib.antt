pub mod DistanceLaws
pub mod FindingLaws
pub mod HopLaws
pub mod JoinLaws
pub mod LeastLaws
pub mod PathLaws
pub mod SpreadLaws
