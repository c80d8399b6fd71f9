pub mod Memory
pub mod Rain
