pub mod Few
pub mod Growing
