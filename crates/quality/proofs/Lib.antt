pub mod Floor
pub mod Ranges
pub mod Values
pub mod Taken
