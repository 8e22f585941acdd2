pub mod Assembled
pub mod InRange
pub mod DraftLemmas
pub mod Measuring
pub mod ReachLemmas
pub mod ElementLemmas
pub mod Drafting
pub mod Marking
