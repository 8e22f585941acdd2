pub mod Declarations
pub mod Views
pub mod Walk
pub mod WalkParts
pub mod Items
