pub mod Words
pub mod WordLaws
pub mod Demand3
pub mod Proved
pub mod AskedProved
pub mod ADay
pub mod SameReplayProved
