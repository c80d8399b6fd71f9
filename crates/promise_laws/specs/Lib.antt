pub mod Places
pub mod Rows
pub mod Rounds
pub mod Printing
pub mod Commands
