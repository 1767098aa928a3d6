pub mod Laws
pub mod Pairing
