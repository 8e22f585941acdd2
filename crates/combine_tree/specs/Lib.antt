pub mod Joins
pub mod Offers
pub mod Plain
