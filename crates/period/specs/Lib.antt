pub mod Data
pub mod Meaning
