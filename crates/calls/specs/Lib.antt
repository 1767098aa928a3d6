pub mod Replies
pub mod Requests
pub mod Texts
pub mod Verbs
