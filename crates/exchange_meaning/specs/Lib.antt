pub mod Logged
pub mod Telling
pub mod LogOf
pub mod Replays
pub mod Laws
pub mod LogLines
pub mod OfShape
