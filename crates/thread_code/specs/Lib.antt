pub mod Plain
pub mod Valid
pub mod Listing
pub mod Machine
pub mod Alone
pub mod Worked
pub mod Laws
pub mod Fused
