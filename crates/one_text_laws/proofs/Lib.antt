pub mod AnsweredBatches
pub mod HandedOver
pub mod OneTalk
pub mod OneTried
pub mod OneRound
pub mod OneRun
