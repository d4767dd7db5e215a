pub mod AlikeLaws
pub mod DepthLaws
pub mod LeastLaws
pub mod RangeLaws
pub mod RuleLaws
pub mod StepLaws
