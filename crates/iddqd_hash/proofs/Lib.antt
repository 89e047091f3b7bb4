pub mod ChangeLemmas
mod EntryLemmas
pub use Rattle.iddqd_hash_parts.proofs.GetMutLemmas
