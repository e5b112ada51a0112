pub mod CallsDay
pub mod Demand3Calls
pub mod Matches
pub mod Follows
pub mod ProvedCalls
