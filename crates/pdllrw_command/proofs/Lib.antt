pub mod Outcomes
pub mod Success
pub mod Refusals
pub mod Gathered
pub mod Lines
