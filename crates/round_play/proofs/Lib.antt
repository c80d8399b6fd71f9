pub mod RecoveryCalls
pub mod RecoveryChanges
pub mod Heads
pub mod Opened
pub mod StoppedRecovery
pub mod Restarted
pub mod RoundPlayed
pub mod TurnPlayed
