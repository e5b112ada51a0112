-- What the functions of judging rest on.
pub mod One
pub mod Lines
