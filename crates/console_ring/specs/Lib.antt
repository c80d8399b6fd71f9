pub mod History
pub mod Picture
pub mod Standing
