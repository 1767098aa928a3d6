pub mod Averages
pub mod Texts
