pub mod Lines
pub mod Pieces
pub mod Strings
pub mod Numbers
pub mod Endings
pub mod LineFeeds
pub mod Walks
pub mod Unique
