pub mod LoginBytes
pub mod LoginBytesLaws
pub mod SessionBytes
pub mod Judged
