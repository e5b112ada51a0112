pub mod Stages
pub mod SessionLaws
pub mod SessionNumbers
pub mod SessionMeaning
pub mod SessionTrip
pub mod ValueFieldLaws
pub mod Passing
pub mod TypeLaws
