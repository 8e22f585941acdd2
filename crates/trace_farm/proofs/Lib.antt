-- Lemmas.
pub mod Given
