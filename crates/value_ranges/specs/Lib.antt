pub mod Properties
pub mod Words
pub mod Laws
