pub mod View
pub mod Scenes
pub mod Called
pub mod Behind
pub mod Table
pub mod Reading
pub mod Marking
