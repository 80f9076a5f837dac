pub mod Fitting
pub mod Asking
pub mod Learning
pub mod Learnt
pub mod Known
pub mod Naming
mod Segments
