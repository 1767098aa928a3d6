pub mod Bytes
pub mod Digits
pub mod Slots
pub mod Fields
pub mod Faults
