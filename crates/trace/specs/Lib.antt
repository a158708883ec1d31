pub mod Names
pub mod Naming
pub mod Refusals
pub mod Lines
pub mod Laws
