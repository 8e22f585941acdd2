pub mod HostedLemmas
pub mod TickRun
pub mod Newly
