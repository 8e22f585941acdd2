pub mod Bound
pub mod Capped
pub mod Known
