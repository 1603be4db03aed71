pub mod Halves
pub mod Services
pub mod Telling
