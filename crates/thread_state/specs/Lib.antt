pub mod Frames
pub mod Kept
pub mod Pars
pub mod Parts
pub mod Taken
