pub mod KernelShape
pub mod AllFine
pub mod WorkedCodes
mod WorkedRuns
pub mod CanBeValid
mod NotValid
pub mod Steady
pub mod SmallCode
pub mod Unstuck
pub mod Sized
pub mod Answers
pub mod FusedLemmas
