pub mod Cause
pub mod Told
pub mod Written
pub mod Stored
pub mod Lists
