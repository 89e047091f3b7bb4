use Rattle.std.proofs.Common.{◌≡◌, ◌≢◌, ◌+◌, ◌*◌, ◌<◌, length, set, refl, sym, subst, ◌∙◌, arith}
use Rattle.std.proofs.lemmas.List.{length-set}
use Rattle.iddqd_hash_index.specs.Lanes.{tag_in}
use Rattle.iddqd_hash_index.specs.Groups.{home_of, steps_to, group_at, pairs_of, slot_at, IsPlaced, IsTakeWalk}
use Rattle.iddqd_hash_index.specs.HashPairs.{HasOneMore}
use Rattle.iddqd_hash_index.proofs.CellLemmas.{RecountsOne-set, WritesCell-set}
use Rattle.iddqd_hash_index.proofs.FindLemmas.{cell_tag}
use Rattle.iddqd_hash_index.proofs.WalkLemmas.{home_of-lt, steps_lt}
use Rattle.iddqd_hash_index.proofs.TakeLemmas.{HoldsPair-listed, IsTakeWalk-home, IsTakeWalk-open, IsTakeWalk-counted, IsTakeWalk-next, IsPlaced-taken, HasOneMore-taken, missed_elsewhere}
use Rattle.iddqd_hash_index.proofs.hash_index.change.free_at.Goals.{After-slot, After-after-passed}
use Rattle.iddqd_hash_index.proofs.hash_index.change.free_at.Goals as goal

pub walk-init : goal.walk-init
walk-init c = rw c.home-passed.ensures.value (IsTakeWalk-home _ _ _ _ (omega (arith, c.requires.pair.within)) c.requires.placed)

pub uncount_overflow-requires : goal.uncount_overflow-requires
uncount_overflow-requires c =
    let w = c.walk.invariant in
    let holds = c.requires.pair in
    record { counted = IsTakeWalk-counted _ _ _ _ _ _ w (HoldsPair-listed _ _ _ _ _ _ holds) (missed_elsewhere _ _ _ _ _ _ _ _ w holds (c.requires.once _) c.walk-test.true) }

step : (c : After-after-passed) → let n = length c.args.groups.now in let home = home_of n c.args.hash in (steps_to n home c.after-passed.result ≡ steps_to n home c.walk.passed + 1)
    × IsTakeWalk c.args.groups.now (set c.walk.groups c.walk.passed c.uncount_overflow.new.self) c.args.cells.now c.args.hash (slot_at c.args.cells.now (12 * c.args.at + c.args.lane)) c.after-passed.result
step c =
    let w = c.walk.invariant in
    let holds = c.requires.pair in
    let present = HoldsPair-listed _ _ _ _ _ _ holds in
    let missed = missed_elsewhere _ _ _ _ _ _ _ _ w holds (c.requires.once _) c.walk-test.true in
    let within : c.walk.passed < length c.walk.groups = omega (arith, w.seek.within, w.count) in
    let inside = IsTakeWalk-open _ _ _ _ _ _ w present missed in
    let away : c.after-passed.result ≢ home_of (length c.args.groups.now) c.args.hash
    = λ e. let last = subst (λ a. steps_to (length c.args.groups.now) a c.walk.passed + 1 ≡ length c.args.groups.now) e c.after-passed.ensures.last in omega arith in
    let next = c.after-passed.ensures.step (home_of (length c.args.groups.now) c.args.hash) (home_of-lt _ c.args.hash (omega arith)) away in
    (next, IsTakeWalk-next _ _ _ _ _ _ w present missed _ _ (length-set _ _ _) c.after-passed.ensures.bound next (RecountsOne-set _ _ _ within _ c.uncount_overflow.ensures))

pub walk-smaller : goal.walk-smaller
walk-smaller c = omega (arith, (step c).0, steps_lt _ _ (home_of-lt _ c.args.hash (omega arith)) c.walk.passed c.walk.invariant.seek.within)

pub walk-preserved : goal.walk-preserved
walk-preserved c = (step c).1

freed : (c : After-slot) → let gs = set c.walk.groups c.args.at c.free.new.self in let slot = slot_at c.args.cells.now (12 * c.args.at + c.args.lane) in
    IsPlaced gs c.args.cells.now × HasOneMore (pairs_of gs c.args.cells.now) (pairs_of c.args.groups.now c.args.cells.now) (c.args.hash, slot)
freed c =
    let holds = c.requires.pair in
    let w : IsTakeWalk c.args.groups.now c.walk.groups c.args.cells.now c.args.hash (slot_at c.args.cells.now (12 * c.args.at + c.args.lane)) c.args.at
    = subst (λ p. IsTakeWalk c.args.groups.now c.walk.groups c.args.cells.now c.args.hash (slot_at c.args.cells.now (12 * c.args.at + c.args.lane)) p) c.walk-test.false c.walk.invariant in
    let within : c.args.at < length c.walk.groups = omega (arith, w.seek.within, w.count) in
    let present = HoldsPair-listed _ _ _ _ _ _ holds in
    let some : tag_in (group_at c.walk.groups c.args.at) c.args.lane ≢ 0 = λ z. holds.taken (sym (cell_tag c.args.groups.now c.args.at c.args.lane holds.small) ∙ sym (λ i. w.tags i (12 * c.args.at + c.args.lane)) ∙ cell_tag c.walk.groups c.args.at c.args.lane holds.small ∙ z) in
    let writes = WritesCell-set _ _ _ within _ _ holds.small c.free.ensures in
    (IsPlaced-taken _ _ _ _ _ _ w present (c.requires.once _) _ _ holds.small (length-set _ _ _) some refl writes, HasOneMore-taken _ _ _ _ _ _ w present (c.requires.once _) _ _ holds.small (length-set _ _ _) some refl writes)

pub returns-clause-placed : goal.returns-clause-placed
returns-clause-placed c = (freed c).0

pub returns-clause-pairs : goal.returns-clause-pairs
returns-clause-pairs c = rw c.slot.ensures (freed c).1
