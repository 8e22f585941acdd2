-- What the contracts cite.
pub mod Wave
pub mod Writing
pub mod Machine
pub mod Fronts
pub mod Reading
pub mod Dumps
