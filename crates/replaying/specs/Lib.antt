pub mod Slots
pub mod Texts
