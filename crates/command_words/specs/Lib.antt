pub mod ClockWords
pub mod Command
pub mod Numbers
pub mod Possible
pub mod ReportWords
pub mod TaskWords
