pub mod OneAnswers
pub mod Desk
