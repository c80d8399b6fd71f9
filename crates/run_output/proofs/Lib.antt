pub mod Behind
pub mod CallCauses
pub mod Causes
pub mod GoodFiles
pub mod PrintedPieces
pub mod RunCauses
pub mod Statuses
