pub mod Looked
pub mod Lists
pub mod Statements
pub mod Doing
pub mod NumberingLemmas
pub mod Going
pub mod LandingLemmas
pub mod AdditionLemmas
