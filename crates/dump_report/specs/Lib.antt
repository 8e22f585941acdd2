-- What the contracts cite.
pub mod Told
pub mod Ends
pub mod Calls
