mod Lawful
mod Listing
mod Saying
