pub mod Histories
pub mod Law
pub mod Others
pub mod Steps
