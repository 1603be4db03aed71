pub mod Numbers
pub mod Locked
pub mod Ends
pub mod Inputs
pub mod Reasons
pub mod Serving
pub mod Finishing
