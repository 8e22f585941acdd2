pub mod Bytes
pub mod TextNames
pub mod Whole
