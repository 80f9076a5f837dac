pub mod View
pub mod Ends
pub mod Typing
pub mod Removing
pub mod Substituting
pub mod Sorting
pub mod Marking
pub mod Worked
