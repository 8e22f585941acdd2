pub mod Boards
pub mod CoreHosts
