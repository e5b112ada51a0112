pub mod One
pub mod Given
