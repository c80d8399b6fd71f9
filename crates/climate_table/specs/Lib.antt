pub mod Degrees
pub mod DegreeDays
pub mod Total
pub mod Climate
pub mod Line
pub mod Table
pub mod Spans
