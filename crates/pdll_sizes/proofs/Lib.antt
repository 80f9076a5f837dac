pub mod Limits
pub mod Maps
pub mod Sums
pub mod Totals
