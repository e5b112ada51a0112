pub mod BringsCalls
pub mod BringsLaws
pub mod Example
pub mod SameReplay
