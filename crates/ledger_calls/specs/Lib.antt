pub mod Openings
pub mod Questions
pub mod Replies
pub mod Runs
pub mod Texts
