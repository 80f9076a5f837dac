pub mod Found
pub mod Course
