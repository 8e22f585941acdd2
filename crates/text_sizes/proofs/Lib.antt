pub mod TermCountLemmas
pub mod Sized
pub mod Nearby
pub mod Extending
pub mod Widening
pub mod Heights
pub mod Tallied
pub mod Amounts
