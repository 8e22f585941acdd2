pub mod Pended
