pub mod Printable
pub mod PrintableRows
pub mod Renumbering
pub mod Brackets
pub mod Laws
