pub mod SomeTalk
pub mod KeeperAnswers
pub mod SomeAttempt
pub mod SomeRound
pub mod SomeRun
