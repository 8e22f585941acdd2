pub mod Asking
pub mod RopePairLemmas
