pub mod Combines
pub mod Written
