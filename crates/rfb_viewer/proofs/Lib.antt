pub mod Rows
pub mod Places
