pub mod Logging
pub mod Sending
