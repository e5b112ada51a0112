pub mod VenueBytes
