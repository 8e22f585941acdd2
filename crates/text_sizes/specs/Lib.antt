pub mod TermCounts
pub mod Extents
pub mod Spans
pub mod Measures
