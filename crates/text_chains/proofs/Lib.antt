pub mod Parts
pub mod Telling
pub mod Agreeing
pub mod Sums
pub mod Combined
pub mod Reading
pub mod PeakLemmas
