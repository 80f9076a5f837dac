pub mod Residues
pub mod Masks
pub mod Wrapping
pub mod Meaning
pub mod Examples
pub mod OneType
pub mod Lines
