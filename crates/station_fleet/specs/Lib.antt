pub mod Fleets
pub mod Outcomes
pub mod StationTurns
pub mod TurnLaws
