pub mod Filling
pub mod StoringLaws
pub mod WordNumbers
