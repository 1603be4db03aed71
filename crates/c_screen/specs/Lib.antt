pub mod Codes
pub mod Inputs
pub mod Settings
pub mod Desk
pub mod Pixels
pub mod Places
pub mod PlacesLemmas
pub mod Calls
