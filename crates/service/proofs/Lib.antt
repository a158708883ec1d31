pub mod Guarding
pub mod Idling
pub mod Laws
