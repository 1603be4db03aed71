pub mod Connection
pub mod Reasons
pub mod Services
pub mod Serving
pub mod Telling
