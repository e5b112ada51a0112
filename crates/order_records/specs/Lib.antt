pub mod Loaded
pub mod Records
pub mod RecordLaws
pub mod RecordTrip
