pub mod Plugs
