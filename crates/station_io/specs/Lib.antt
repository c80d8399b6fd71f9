pub mod Files
pub mod Memory
pub mod Named
pub mod Sink
