pub mod Branches
pub mod Arithmetic
pub mod IndexLemmas
pub mod Ordered
pub mod Settled
pub mod Reading
pub mod Searched
pub mod Ranked
