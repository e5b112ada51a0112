pub mod Answer
pub mod Venues
pub mod VenueStages
pub mod VenueDay
pub mod VenueView
pub mod Brings
