mod Worked
pub mod Agreeing
pub mod Ranks
pub mod Unfolds
pub mod CappedBounds
pub mod Searching
pub mod Tables
pub mod Visiting
