pub mod OneEntryMore
pub mod Ends
pub mod Intervals
pub mod RunningSums
pub mod EntriesSoFar
pub mod ClosedIntervals
pub mod Within
