pub mod Dealt
pub mod Joined
pub mod Laws
pub mod Slots
pub mod Splits
