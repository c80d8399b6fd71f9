pub mod Digits
pub mod PairByPair
pub mod PassedTests
