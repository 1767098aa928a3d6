pub mod Cutting
mod Gathering
pub mod Reading
pub mod Saying
mod Splitting
