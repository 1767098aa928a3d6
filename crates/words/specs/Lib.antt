pub mod Failures
pub mod Kinds
pub mod Numbers
pub mod Quotes
pub mod Words
