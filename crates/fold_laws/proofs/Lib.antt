mod Values
mod Flows
mod Texts
mod Joins
mod Rests
mod Moves
mod Stepping
mod Waking
pub mod Ticks
pub mod Paces
mod Subs
pub mod Formed
mod Worked
