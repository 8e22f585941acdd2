pub mod Forms
pub mod Index
pub mod Views
pub mod Graph
pub mod Known
pub mod Numbered
pub mod Judges
