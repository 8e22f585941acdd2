pub mod Fresh
pub mod Mail
pub mod SeatEnds
pub mod Ports
pub mod Rule
pub mod Steps
