pub mod Searching
pub mod Indexing
pub mod Walks
pub mod BadUses
