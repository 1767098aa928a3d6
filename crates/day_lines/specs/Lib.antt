pub mod Seen
pub mod Takings
pub mod Texts
