use Rattle.std.proofs.Common.{◌≡◌, ◌+◌, ◌*◌, ◌≤◌, length, true}
use Rattle.std.specs.Option.{IsSomeAnd}
use Rattle.iddqd_hash_index.specs.Lanes.{LanesLeft}
use Rattle.iddqd_hash_index.specs.Groups.{group_at, hash_at, slot_at, tag_at, tag_of, pair_at, Compared, IsVisited}
use Rattle.iddqd_store.specs.Store.{item_at}
use Rattle.iddqd_hash_index.proofs.hash_index.probe.find_at.Given as goal

abbrev pub invariant-search : goal.invariant-search
invariant-search g l = record {
  left : LanesLeft (group_at l.groups l.at) (tag_of (length l.groups) l.hash) l.lanes.bits (λ k. hash_at l.cells (12 * l.at + k) ≡ l.hash → ¬ IsSomeAnd (item_at l.store (slot_at l.cells (12 * l.at + k))) (λ x. g.Q.Equivalent.equivalent l.query (g.K.KeyOf.key x) ≡ true));
  compared : Compared (12 * length l.groups) (tag_at l.groups) (pair_at l.cells) l.hash (IsVisited l.at l.lanes.bits) l.fn.steps l.steps;
  never_resets : l.fn.steps ≤ l.steps;
}

abbrev pub decreases-search : goal.decreases-search
decreases-search g l = l.lanes.bits
