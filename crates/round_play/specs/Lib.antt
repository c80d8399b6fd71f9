pub mod Opening
pub mod Played
pub mod Playing
pub mod Restarting
pub mod Resting
