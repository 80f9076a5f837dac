pub mod Classes
pub mod Covers
pub mod Sound
pub mod Places
pub mod Told
