pub mod Copies
pub mod Memory
pub mod Named
pub mod Numbers
pub mod Outside
