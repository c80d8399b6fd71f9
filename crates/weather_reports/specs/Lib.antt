pub mod Line
pub mod Months
pub mod Report
pub mod Begun
pub mod Reported
pub mod Wrote
pub mod Recomputed
pub mod Made
