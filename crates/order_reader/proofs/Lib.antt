pub mod Judging
pub mod Heads
pub mod Readings
pub mod InPlace
pub mod Fronts
pub mod LateInPlace
pub mod Typed
