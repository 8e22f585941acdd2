pub mod Additions
pub mod Heads
pub mod Landings
pub mod Numbering
pub mod Views
