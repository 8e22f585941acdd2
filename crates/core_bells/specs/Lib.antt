pub mod Hints
pub mod Laws
pub mod Rooms
pub mod Ropes
