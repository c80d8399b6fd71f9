pub mod AcceptedSchedules
pub mod DueMinutes
pub mod ReadForms
pub mod RisingRecords
pub mod RunRecords
pub mod SameValues
pub mod NextStamps
