pub mod RowLaws
pub mod TailLaws
pub mod PackedBatches
pub mod DayLaws
pub mod DayRows
pub mod Versions
