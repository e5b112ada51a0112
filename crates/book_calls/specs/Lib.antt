pub mod TableBytes
pub mod BookBytes
pub mod InPlace
