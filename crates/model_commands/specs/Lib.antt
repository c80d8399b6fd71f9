pub mod BlankPacket
pub mod ConsoleRun
pub mod FleetPrints
pub mod FleetRun
pub mod MakeRun
pub mod ReplayRun
pub mod ScheduleReading
