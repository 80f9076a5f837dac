pub mod Cursor
pub mod Written
pub mod Reading
pub mod Choosing
pub mod ReadLog
pub mod Walk
pub mod Laws
