use Rattle.std.proofs.Common.{◌≡◌, ℕ, ◌+◌, ◌*◌, length, true, sym, ap, subst, ◌∙◌, arith}
use Rattle.std.specs.Option.{IsSomeAnd}
use Rattle.std.proofs.lemmas.Bool.{true≢false}
use Rattle.iddqd_hash_index.specs.Groups.{hash_at, slot_at, tag_at, pair_at}
use Rattle.iddqd_store.specs.Store.{item_at}
use Rattle.iddqd_hash_index.proofs.LaneLemmas.{LanesLeft-all, LanesLeft-next}
use Rattle.iddqd_hash_index.proofs.FindLemmas.{cell_tag, listed, Compared-none, Compared-wider, Compared-one, IsVisited-wider, IsVisited-lane, IsVisited-new}
use Rattle.iddqd_hash_index.proofs.hash_index.probe.find_at.Goals.{then-hash+else-equal, else-hash}
use Rattle.iddqd_hash_index.proofs.hash_index.probe.find_at.Goals as goal

pub search-init : goal.search-init
search-init g c = record {
  left = LanesLeft-all _ _ _ _ (rw c.tag.ensures.value at c.matching-lanes.ensures.lanes);
  compared = Compared-none _ _ _ _ _ _;
  never_resets = omega arith;
}

pub item-item-requires : goal.item-item-requires
item-item-requires g c =
    let hit = c.search.invariant.left.only c.in-Some.lane c.in-Some.ensures.some in
    let some = c.tag.ensures.some in
    c.requires.occupied _ (listed _ _ c.args.at c.in-Some.lane _ _ c.requires.within hit.0 (λ z. omega (arith, hit.1, c.tag.ensures.value)) (sym (c.hash.ensures ∙ c.cell_at-cell.ensures.hash) ∙ c.if-hash.true) (c.slot-slot.ensures ∙ c.cell_at-cell.ensures.slot))

pub returns-then-equal-clause-lane : goal.returns-then-equal-clause-lane
returns-then-equal-clause-lane g c =
    let hit = c.search.invariant.left.only c.in-Some.lane c.in-Some.ensures.some in
    let some = c.tag.ensures.some in
    record {
      within = c.requires.within;
      small = hit.0;
      taken = λ z. omega (arith, hit.1, c.tag.ensures.value);
      has_hash = sym (c.hash.ensures ∙ c.cell_at-cell.ensures.hash) ∙ c.if-hash.true;
      has_slot = c.slot-slot.ensures ∙ c.cell_at-cell.ensures.slot;
    }

pub returns-then-equal-clause-found : goal.returns-then-equal-clause-found
returns-then-equal-clause-found g c =
    subst (λ o. IsSomeAnd o (λ x. g.Q.Equivalent.equivalent c.args.query.now (g.K.KeyOf.key x) ≡ true)) (sym c.item-item.ensures)
    (ap (g.Q.Equivalent.equivalent c.args.query.now) (sym c.key_of.ensures) ∙ sym c.equal.ensures.value ∙ c.if-equal.true)

pub returns-then-equal-clause-compared : goal.returns-then-equal-clause-compared
returns-then-equal-clause-compared g c =
    let gs = c.args.groups.now in
    let hit = c.search.invariant.left.only c.in-Some.lane c.in-Some.ensures.some in
    let some = c.tag.ensures.some in
    let within = c.requires.within in
    let small = hit.0 in
    Compared-one (12 * length gs) (tag_at gs) (pair_at c.args.cells.now) c.args.hash _ _ _ _ c.search.invariant.compared (λ _ visited. visited.0) (12 * c.args.at + c.in-Some.lane) _
    (omega arith) (λ z. omega (arith, hit.1, c.tag.ensures.value, sym (cell_tag gs c.args.at c.in-Some.lane small) ∙ z)) (sym (c.hash.ensures ∙ c.cell_at-cell.ensures.hash) ∙ c.if-hash.true)
    (IsVisited-new _ _ c.in-Some.lane small c.in-Some.ensures.some) (omega arith) (omega (arith, c.equal.ensures.step))

pub search-preserved : goal.search-preserved
search-preserved g c =
    let gs = c.args.groups.now in
    let lane : ℕ = c.in-Some.lane in
    let hit = c.search.invariant.left.only lane c.in-Some.ensures.some in
    let some = c.tag.ensures.some in
    let within = c.requires.within in
    let small = hit.0 in
    let left = c.without-lanes.ensures.left in
    let Test : ℕ → Type 0 = λ s. IsSomeAnd (item_at c.args.store.now s) (λ x. g.Q.Equivalent.equivalent c.args.query.now (g.K.KeyOf.key x) ≡ true) in
    let Missed : ℕ → Type 0 = λ k. hash_at c.args.cells.now (12 * c.args.at + k) ≡ c.args.hash → ¬ Test (slot_at c.args.cells.now (12 * c.args.at + k)) in
    elim c.if-hash.branch [
      | then-hash+else-equal w ↦ record {
        left = LanesLeft-next _ _ Missed _ _ _ left c.search.invariant.left (λ _ passes.
            let held = sym (sym w.item-item.ensures ∙ ap (item_at c.args.store.now) (c.slot-slot.ensures ∙ c.cell_at-cell.ensures.slot)) in
            let passed = subst (λ o. IsSomeAnd o (λ x. g.Q.Equivalent.equivalent c.args.query.now (g.K.KeyOf.key x) ≡ true)) held passes in
            absurd (true≢false (sym passed ∙ ap (g.Q.Equivalent.equivalent c.args.query.now) (sym w.key_of.ensures) ∙ sym w.equal.ensures.value ∙ w.if-equal.false)));
        compared = Compared-one (12 * length gs) (tag_at gs) (pair_at c.args.cells.now) c.args.hash _ _ _ _ c.search.invariant.compared
            (IsVisited-wider _ _ lane _ small left) (12 * c.args.at + lane) _
            (omega arith) (λ z. omega (arith, hit.1, c.tag.ensures.value, sym (cell_tag gs c.args.at lane small) ∙ z)) (sym (c.hash.ensures ∙ c.cell_at-cell.ensures.hash) ∙ w.if-hash.true)
            (IsVisited-new _ _ lane small c.in-Some.ensures.some)
            (IsVisited-lane _ _ lane _ small left) (omega (arith, w.steps-is, w.equal.ensures.step));
        never_resets = rw w.steps-is (omega (arith, c.search.invariant.never_resets, w.equal.ensures.never_resets));
      }
      | else-hash w ↦ record {
        left = LanesLeft-next _ _ Missed _ _ _ left c.search.invariant.left (λ same. absurd (w.if-hash.false (c.hash.ensures ∙ c.cell_at-cell.ensures.hash ∙ same)));
        compared = rw w.steps-is (Compared-wider (12 * length gs) (tag_at gs) (pair_at c.args.cells.now) c.args.hash _ _ _ _ c.search.invariant.compared (IsVisited-wider _ _ lane _ small left));
        never_resets = rw w.steps-is c.search.invariant.never_resets;
      }
    ]

pub returns-clause-missed : goal.returns-clause-missed
returns-clause-missed g c = λ k p t. c.search.invariant.left.rest k p t (c.in_default.ensures.none k)

pub returns-clause-compared : goal.returns-clause-compared
returns-clause-compared g c = Compared-wider _ _ _ _ _ _ _ _ c.search.invariant.compared (λ _ visited. visited.0)
