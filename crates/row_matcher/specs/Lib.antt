pub mod View
pub mod Behind
pub mod Asked
pub mod Segments
pub mod Learning
