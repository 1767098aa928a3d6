pub mod Messages
pub mod Texts
