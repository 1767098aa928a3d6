mod First
mod Last
mod Onward
mod Steps
