pub mod HintLemmas
pub mod Dealing
pub mod Hanging
pub mod Lists
pub mod Loosening
