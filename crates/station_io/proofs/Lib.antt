pub mod RefusedWrites
