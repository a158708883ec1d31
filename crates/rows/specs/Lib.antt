pub mod Below
pub mod Exchanges
pub mod Refusals
pub mod RowCalls
pub mod Rows
