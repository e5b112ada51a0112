pub mod Kinds
pub mod Words
