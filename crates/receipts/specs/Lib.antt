pub mod Differences
pub mod Histories
pub mod Checking
pub mod Claims
pub mod Examples
