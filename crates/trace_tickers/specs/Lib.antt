pub mod Hosting
pub mod Orders
pub mod Rewriting
