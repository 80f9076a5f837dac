pub mod Positions
pub mod Laws
pub mod Accepted
pub mod Outcome
pub mod Stops
pub mod Written
pub mod Complete
pub mod Codes
