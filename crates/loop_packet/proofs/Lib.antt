pub mod InOrder
pub mod Inverse
pub mod Pieces
pub mod SamePacket
