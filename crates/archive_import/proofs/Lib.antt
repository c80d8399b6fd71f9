pub mod Ahead
pub mod Later
pub mod Fives
pub mod ImportEnds
pub mod Added
pub mod SlotRows
pub mod ArchiveRows
