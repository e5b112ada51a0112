-- What the functions of storing rest on.
pub mod One
pub mod Passed
pub mod Unlisted
