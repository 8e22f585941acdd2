mod Branches
mod Made
mod Placed
mod Ports
pub mod Roped
