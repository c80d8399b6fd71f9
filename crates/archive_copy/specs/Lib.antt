pub mod Adding
pub mod Answers
pub mod Calls
pub mod Copies
pub mod Comparing
pub mod Opening
pub mod Reading
