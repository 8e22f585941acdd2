pub mod Tracks
pub mod Walks
pub mod Replaying
pub mod Rooted
