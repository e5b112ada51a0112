pub mod Accepts
pub mod TableLaws
