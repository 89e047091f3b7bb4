use Rattle.std.proofs.Common.{◌≡◌, ◌∙◌, subst, sym, arith}
use Rattle.std.proofs.lemmas.Grind.{common_steps}
use Rattle.std.proofs.lemmas.List.{with_items_is}
use Rattle.std.specs.List.{Contains}
use Rattle.iddqd_hash_index.specs.HashPairs.{HoldsMatch}
use Rattle.iddqd_hash_index.proofs.IndexLemmas.{IsHashIndex-removed}
use Rattle.iddqd_hash_index.proofs.TakeLemmas.{HoldsPair-listed}
use Rattle.iddqd_hash_index.proofs.hash_index.HashIndex.remove_by_key.Goals as goal

pub free_at-slot-requires-clause-once : goal.free_at-slot-requires-clause-once
free_at-slot-requires-clause-once g c = rw (c.as_mut_slice.ensures.value, c.as_slice-cells.ensures.value) c.self.invariant.each_once

pub overflow_sub-self : goal.overflow_sub-self
overflow_sub-self g c =
    let there = HoldsPair-listed _ _ _ _ _ _ (rw (c.as_slice-groups.ensures.value, c.as_slice-cells.ensures.value) at c.in_ok-at.ensures.lane) in
    omega (arith, there.1, c.self.invariant.counted)

pub invariant_of-self : goal.invariant_of-self
invariant_of-self g c =
    let groups = with_items_is c.self.inside.groups c.free_at-slot.new.groups (omega arith) in
    rw groups (IsHashIndex-removed c.self.inside.groups.items _ c.self.inside.cells.items _ _ _ c.self.invariant (omega arith) (omega arith) (rw c.as_slice-cells.ensures.value at c.free_at-slot.ensures.placed) (c.args.hash, c.free_at-slot.result)
    (rw (c.as_mut_slice.ensures.value, c.as_slice-cells.ensures.value) at c.free_at-slot.ensures.pairs))

pub returns-clause-found : goal.returns-clause-found
returns-clause-found g c =
    let lane = rw (c.as_slice-groups.ensures.value, c.as_slice-cells.ensures.value) at c.in_ok-at.ensures.lane in
    let same : c.in_ok-at.field-0-2 ≡ c.free_at-slot.result = lane.has_slot ∙ sym (rw c.as_slice-cells.ensures.value at c.free_at-slot.ensures.slot) in
    subst (λ slot. Contains c.args.self.now.pairs (c.args.hash, slot) × HoldsMatch c.args.store.now (λ x. g.Q.Equivalent.equivalent c.args.query.now (g.K.KeyOf.key x)) slot) same
    (subst (λ v. Contains v.pairs (c.args.hash, c.in_ok-at.field-0-2)) c.self.view_is (HoldsPair-listed _ _ _ _ _ _ lane), c.in_ok-at.ensures.found)

pub returns-clause-pairs : goal.returns-clause-pairs
returns-clause-pairs g c = grind (arith, common_steps)
