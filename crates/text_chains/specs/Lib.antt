pub mod Tallies
pub mod Peaks
pub mod Views
