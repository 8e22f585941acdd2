pub mod Input
pub mod Items
pub mod Program
pub mod ViablePrefixes
