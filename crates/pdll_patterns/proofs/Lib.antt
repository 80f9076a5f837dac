pub mod Declaring
pub mod Bodies
pub mod Loops
pub mod Calling
pub mod Steps
pub mod Sight
