pub mod Messages
pub mod Stages
pub mod ByteLaws
pub mod OrderPlaces
pub mod Taken
pub mod ValidOrders
