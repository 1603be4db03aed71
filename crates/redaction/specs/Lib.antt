pub mod Redaction
pub mod Places
pub mod Parts
pub mod Sessions
pub mod Following
pub mod Claims
pub mod Examples
