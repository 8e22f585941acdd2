pub mod ItemRules
pub mod ItemSound
pub mod ItemSteady
pub mod ProgramLemmas
pub mod Refusals
pub mod ViableItems
pub mod ViablePrograms
pub mod Stops
