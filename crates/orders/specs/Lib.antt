pub mod Shapes
pub mod Markets
pub mod Rests
pub mod FixedFields
pub mod Middle
pub mod Late
pub mod LateBytes
pub mod Orders
