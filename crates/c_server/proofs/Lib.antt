pub mod Waiting
pub mod Fits
pub mod DrawingLemmas
pub mod Turning
pub mod TakenIn
pub mod Taking
pub mod Keeping
