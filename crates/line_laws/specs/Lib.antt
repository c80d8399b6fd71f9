pub mod Host
pub mod Gathers
pub mod Records
pub mod Unharmed
pub mod PagesAcknowledged
