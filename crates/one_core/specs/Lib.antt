pub mod Seats
pub mod Told
pub mod Resting
pub mod Called
pub mod Loads
pub mod Single
