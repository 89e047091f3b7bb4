pub mod ZeroedLemmas
