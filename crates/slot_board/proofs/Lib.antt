pub mod Cutting
pub mod Pairing
pub mod SeatLemmas
pub mod SplitLemmas
pub mod Uniting
