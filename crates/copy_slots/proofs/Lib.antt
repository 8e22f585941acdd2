pub mod Dealing
pub mod EndLists
pub mod MailLemmas
pub mod SeatEndLemmas
pub mod PortLemmas
pub mod RuleLemmas
pub mod Seating
