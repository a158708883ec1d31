pub mod Lockouts
