pub mod Answer
pub mod Sessions
pub mod Stages
pub mod Booked
pub mod MemberDay
pub mod MadeItems
