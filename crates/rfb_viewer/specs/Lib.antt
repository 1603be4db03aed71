pub mod Canvas
pub mod Counts
pub mod Groups
pub mod Read
pub mod Shown
