-- What the contracts cite.
pub mod Runs
pub mod Laws
