pub mod Fetching
pub mod Putting
pub mod Storing
