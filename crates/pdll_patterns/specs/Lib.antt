pub mod View
pub mod Scripts
pub mod InSight
pub mod Evaluating
pub mod Files
