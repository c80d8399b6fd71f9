pub mod Lists
pub mod Documents
pub mod TableWalk
pub mod Changes
pub mod NothingNamed
pub mod ChangesWalk
