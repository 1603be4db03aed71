pub mod Lengths
pub mod Plain
pub mod Coded
mod ReadBack
