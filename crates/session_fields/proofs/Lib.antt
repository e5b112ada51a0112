pub mod Lifts
pub mod Scan
