pub mod Exchange
pub mod TaskTalk
pub mod OneEnd
pub mod Clock
pub mod Memory
pub mod Packet
pub mod Tasks
pub mod Parts
