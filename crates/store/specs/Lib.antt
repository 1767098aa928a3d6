pub mod Clients
pub mod Lists
pub mod Models
pub mod Rules
pub mod Visits
