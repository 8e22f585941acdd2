pub mod Elements
pub mod Marks
pub mod Drafts
pub mod Reach
pub mod Measures
