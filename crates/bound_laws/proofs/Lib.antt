pub mod ValueBounds
pub mod Lengths
pub mod Within
pub mod Loops
pub mod Joins
pub mod Forks
pub mod Statements
pub mod Bodies
pub mod TickBound
pub mod Never
mod Worked
