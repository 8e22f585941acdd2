pub mod PairLemmas
pub mod SendingLemmas
