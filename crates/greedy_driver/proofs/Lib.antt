pub mod Best
pub mod Turns
