pub mod Expressions
pub mod Statements
pub mod Blocks
pub mod Arounds
pub mod StatementCode
pub mod Worked
