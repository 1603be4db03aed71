pub mod Lists
pub mod Growing
pub mod Shortness
pub mod Read
