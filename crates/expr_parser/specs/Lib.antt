pub mod Input
pub mod Meaning
pub mod Reading
pub mod Cursor
pub mod Boxes
pub mod Spelled
