pub mod Pages
pub mod Reach
pub mod Summaries
pub mod Expected
pub mod Settling
pub mod Bytes
pub mod Sentences
pub mod Histories
