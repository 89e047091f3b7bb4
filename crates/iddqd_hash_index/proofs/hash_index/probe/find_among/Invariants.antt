use Rattle.std.proofs.Common.{◌≡◌, ◌≢◌, ℕ, ◌*◌, ◌/◌, ◌<◌, ◌≤◌, length, true}
use Rattle.std.specs.Option.{IsSomeAnd}
use Rattle.iddqd_hash_index.specs.Groups.{hash_at, home_of, steps_to, tag_at, slot_at, pair_at, Compared}
use Rattle.iddqd_store.specs.Store.{item_at}
use Rattle.iddqd_hash_index.proofs.hash_index.probe.find_among.Given as goal

abbrev pub invariant-walk : goal.invariant-walk
invariant-walk g l = record {
  within : l.at < length l.groups;
  here : l.step < length l.groups → steps_to (length l.groups) (home_of (length l.groups) l.hash) l.at ≡ l.step;
  missed : (c : ℕ) → c < 12 * length l.groups → tag_at l.groups c ≢ 0 → hash_at l.cells c ≡ l.hash → steps_to (length l.groups) (home_of (length l.groups) l.hash) (c / 12) < l.step
      → ¬ IsSomeAnd (item_at l.store (slot_at l.cells c)) (λ x. g.Q.Equivalent.equivalent l.query (g.K.KeyOf.key x) ≡ true);
  compared : Compared (12 * length l.groups) (tag_at l.groups) (pair_at l.cells) l.hash (λ c. steps_to (length l.groups) (home_of (length l.groups) l.hash) (c / 12) < l.step) l.fn.steps l.steps;
  never_resets : l.fn.steps ≤ l.steps;
}
