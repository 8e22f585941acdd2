pub mod Few
pub mod Listed
mod Ordered
mod Unique
