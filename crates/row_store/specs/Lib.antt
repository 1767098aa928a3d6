pub mod Places
pub mod Rows
