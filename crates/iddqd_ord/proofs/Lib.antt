mod CloneLemmas
mod CompactLemmas
mod EndLemmas
mod EntryLemmas
pub mod GetMutLemmas
pub mod InsertOrFindLemmas
mod RangeLemmas
pub mod StoreAndIndexLemmas
mod TakenOutLemmas
mod VisitingLemmas
mod WalkLemmas
