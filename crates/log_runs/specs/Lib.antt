pub mod Laws
pub mod ReplayRuns
pub mod RootWalks
pub mod RunLogs
