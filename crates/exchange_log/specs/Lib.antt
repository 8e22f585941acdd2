pub mod Registers
pub mod Notes
pub mod Kept
pub mod Posted
pub mod Lines
pub mod Told
