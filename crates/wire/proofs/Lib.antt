pub mod Accepts
pub mod FrameLaws
