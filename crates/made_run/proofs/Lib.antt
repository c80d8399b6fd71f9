pub mod Counted
pub mod MadeSchedules
pub mod DrawnValues
pub mod Replies
pub mod Seen
pub mod Stepwise
pub mod Unseen
