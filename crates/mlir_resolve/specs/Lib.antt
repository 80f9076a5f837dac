pub mod Laid
pub mod Sight
pub mod Resolving
pub mod Scopes
pub mod Walk
pub mod Heads
