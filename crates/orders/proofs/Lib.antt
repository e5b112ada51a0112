pub mod FixedFieldLaws
pub mod LateOrder
pub mod LateSums
pub mod MarketLaws
pub mod OrderLaws
pub mod RoundTrip
pub mod Refusing
