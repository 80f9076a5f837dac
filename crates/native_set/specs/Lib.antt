pub mod Arithmetic
pub mod Table
pub mod Answers
pub mod Laws
