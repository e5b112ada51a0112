pub mod Walk
pub mod Lanes
pub mod Characters
pub mod WordTest
pub mod Joins
pub mod CharacterSets
pub mod KindLaws
