pub mod Begun
pub mod Counts
pub mod Held
pub mod Lines
pub mod Sessions
pub mod Splits
