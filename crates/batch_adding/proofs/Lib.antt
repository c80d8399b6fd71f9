pub mod Kept
pub mod BookAtRest
pub mod Changes
pub mod Batches
pub mod CallsTogether
