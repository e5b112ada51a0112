pub mod Pulse
pub mod PulseLaws
