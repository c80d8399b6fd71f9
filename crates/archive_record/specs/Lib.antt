pub mod Kind
pub mod MovedOn
pub mod Place
pub mod Table
pub mod Reading
pub mod SlotKind
pub mod Record
pub mod Writing
