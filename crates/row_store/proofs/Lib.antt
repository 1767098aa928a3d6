pub mod Changes
pub mod Places
pub mod Shifts
pub mod Sweeping
