pub mod Found
pub mod StoredRows
pub mod RisingStamps
pub mod RefusedRows
pub mod RefusedRounds
pub mod RefusedPrints
