pub mod Complaints
pub mod Requests
pub mod Words
pub mod Settings
