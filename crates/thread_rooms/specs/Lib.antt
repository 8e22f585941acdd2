pub mod Depths
pub mod Room
