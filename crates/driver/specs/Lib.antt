pub mod DriverRows
pub mod Loading
pub mod Settled
pub mod Calls
