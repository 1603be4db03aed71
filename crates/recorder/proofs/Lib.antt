pub mod Lines
pub mod Digits
