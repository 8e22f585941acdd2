mod Bytes
pub mod Rows
mod Values
mod Whole
