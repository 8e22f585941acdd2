-- What the contracts cite.
pub mod Farm
pub mod Kept
