pub mod Put
pub mod Putting
pub mod FileList
pub mod Taking
