-- The patterns of an accepted file are determined: each page is one step of the proof.
pub mod Fine
pub mod Refs
pub mod Seeing
pub mod Meaning
pub mod Both
pub mod Expressions
pub mod Statements
pub mod Files
