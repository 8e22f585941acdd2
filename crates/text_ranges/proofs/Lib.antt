pub mod Tokens
pub mod Trees
pub mod Spelled
pub mod Lowered
pub mod Bodies
pub mod Words
pub mod Whole
