pub mod Numbers
pub mod NumberLaws
pub mod Prices
pub mod PriceLaws
pub mod Values
