pub mod Puts
pub mod Arguments
pub mod Stepping
pub mod Threads
pub mod Loops
pub mod Transposed
pub mod Marks
pub mod Fates
