pub mod Counting
pub mod Doors
pub mod Entrance
pub mod Requests
