pub mod Filling
pub mod Fits
pub mod Meaning
pub mod Sizes
