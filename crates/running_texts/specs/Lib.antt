pub mod Metered
pub mod Starting
pub mod Folding
pub mod Lookups
