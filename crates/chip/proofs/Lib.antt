pub mod Chosen
