pub mod Blank
pub mod Layout
pub mod Part
pub mod Reading
