mod AddedLemmas
mod ApplyLemmas
mod HashApplyLemmas
mod KeyOrderLemmas
mod LookedUpLemmas
mod MergedLemmas
mod OrdApplyLemmas
pub mod SameKeysLemmas
pub mod UniqueLemmas
