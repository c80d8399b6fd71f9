pub mod SameAttempt
