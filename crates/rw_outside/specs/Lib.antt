pub mod Outside
pub mod Puts
pub mod MemSink
pub mod MemHost
