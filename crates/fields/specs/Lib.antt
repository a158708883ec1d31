pub mod Splitting
pub mod Forms
