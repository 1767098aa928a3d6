pub mod Table
pub mod Back
pub mod Judging
pub mod Laws
pub mod Symbols
