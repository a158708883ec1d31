pub mod Refusals
pub mod Style
