pub mod Ends
pub mod Importing
pub mod ImportsText
pub mod Texts
