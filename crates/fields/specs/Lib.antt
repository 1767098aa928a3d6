pub mod Slots
pub mod Letters
pub mod Rows
