pub mod Opening
pub mod Requests
pub mod Outbox
pub mod Readings
