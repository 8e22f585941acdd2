-- Lemmas.
mod Sent
mod Answered
mod Lines
