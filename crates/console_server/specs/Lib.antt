pub mod Replies
pub mod ServedTurns
pub mod Serving
pub mod Runs
pub mod Ready
