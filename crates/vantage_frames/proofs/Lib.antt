pub mod DifferentBytes
pub mod Spans
pub mod Lines
pub mod Written
