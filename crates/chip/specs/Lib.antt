pub mod Exact
pub mod Meaning
pub mod Lawful
