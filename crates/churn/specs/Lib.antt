pub mod Arguments
pub mod Complaints
pub mod Counts
pub mod Loads
pub mod Names
pub mod Runs
pub mod Times
