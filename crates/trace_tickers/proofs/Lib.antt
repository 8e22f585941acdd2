pub mod Fine
pub mod Numbered
