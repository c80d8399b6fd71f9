pub mod Words
pub mod Histories
pub mod Latest
pub mod Plans
pub mod Pages
