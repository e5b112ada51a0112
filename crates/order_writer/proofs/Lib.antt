pub mod Held
pub mod Puts
pub mod Windows
pub mod Writing
