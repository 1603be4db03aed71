pub mod Lines
pub mod Sessions
pub mod BadLines
pub mod Redacted
pub mod Pictures
pub mod Reading
pub mod Said
pub mod Claims
