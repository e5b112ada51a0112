pub mod Sizes
pub mod Types
pub mod ValueFields
pub mod Reading
pub mod Sessions
