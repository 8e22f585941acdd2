pub mod Finishing
pub mod Tallying
pub mod Reckoning
