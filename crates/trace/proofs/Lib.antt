pub mod Placing
pub mod Letters
pub mod Ordering
pub mod Saying
