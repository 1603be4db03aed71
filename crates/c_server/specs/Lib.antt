pub mod Codes
pub mod Visits
pub mod Listening
pub mod Desk
pub mod Gathering
pub mod System
pub mod Calls
