pub mod Sizes
pub mod Segments
pub mod Reading
