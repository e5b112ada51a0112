pub mod Chains
pub mod NumbersStay
pub mod Reading
pub mod Within
pub mod Writing
