pub mod VenueAgain
pub mod VenueBytesLaws
pub mod VenueBytesNumbers
pub mod VenueOwn
pub mod VenueRefusals
pub mod VenueSized
