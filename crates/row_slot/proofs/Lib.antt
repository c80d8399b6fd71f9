pub mod Bytes
pub mod Fields
pub mod Form
pub mod Inverse
pub mod Presence
pub mod Slots
