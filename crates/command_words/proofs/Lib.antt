pub mod Asked
pub mod Digits
pub mod Free
pub mod WorkedWords
