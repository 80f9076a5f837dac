pub use Rattle.byte_lanes.specs.Bytes
pub mod Hexadecimal
pub mod Longest
pub mod Gaps
pub mod Strings
