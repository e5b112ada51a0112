pub mod Arms
pub mod NewOrders
pub mod Sums
