pub mod Walk
pub mod Ascending
pub mod GroupLaws
pub mod NotTwice
pub mod ValueLaws
