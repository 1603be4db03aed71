pub mod Bands
pub mod Read
pub mod Held
pub mod EachLemmas
