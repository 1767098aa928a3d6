pub mod Counting
pub mod Printing
mod Putting
pub mod Places
