pub mod Branches
pub mod Jobs
pub mod Outcomes
pub mod Ready
pub mod Writing
pub mod Told
pub mod Ticks
