pub mod PortPairs
pub mod RopePairs
