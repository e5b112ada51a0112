pub mod Words
pub mod WordLaws
pub mod Spelling
pub mod SpellingLaws
