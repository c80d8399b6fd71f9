pub mod Near
pub mod YearSpan
pub mod JoinedDays
pub mod Months
pub mod Prints
pub mod Spans
pub mod UnderWay
