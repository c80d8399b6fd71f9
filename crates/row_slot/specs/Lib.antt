pub mod Values
pub mod Slot
pub mod WellFormed
