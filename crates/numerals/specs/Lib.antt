pub mod Numeral
pub mod Pairs
pub mod Then
