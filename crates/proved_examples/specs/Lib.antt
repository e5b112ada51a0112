pub mod Examples
pub mod Places
pub mod Rejections
pub mod Modifies
pub mod Options
