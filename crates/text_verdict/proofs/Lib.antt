mod PacedVerdicts
mod LeastFault
mod Lexing
mod Limits
pub mod Verdicts
mod WorkedVerdicts
