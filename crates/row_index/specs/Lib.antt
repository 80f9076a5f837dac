pub mod BadUses
pub mod Walking
pub mod Indexing
