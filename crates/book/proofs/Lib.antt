pub mod Prices
pub mod Sums
