pub mod Groups
pub mod Values
pub mod Asked
pub mod Answers
