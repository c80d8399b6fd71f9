pub mod SameRows
pub mod Fronts
pub mod NextRows
pub mod Kept
pub mod Ends
pub mod Looks
pub mod FromCalls
pub mod ReadAhead
