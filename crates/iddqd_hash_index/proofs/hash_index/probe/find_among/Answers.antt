use Rattle.std.proofs.Common.{◌≡◌, ◌+◌, length, true, ap, subst, ◌∙◌, arith}
use Rattle.std.specs.Option.{IsSomeAnd}
use Rattle.iddqd_hash_index.specs.Groups.{home_of, steps_to}
use Rattle.iddqd_store.specs.Store.{item_at}
use Rattle.iddqd_hash_index.proofs.WalkLemmas.{home_of-lt, steps_self}
use Rattle.iddqd_hash_index.proofs.FindLemmas.{Compared-none, Compared-group, Compared-le, AllMissed-more, none_at_stop, none_at_end}
use Rattle.iddqd_hash_index.proofs.hash_index.probe.find_among.Goals as goal

pub walk-init : goal.walk-init
walk-init g c = record {
  within = c.home-at.ensures.bound;
  here = λ some. rw c.home-at.ensures.value (steps_self _ _ (rw (← c.home-at.ensures.value) c.home-at.ensures.bound));
  missed = λ d p taken is less. absurd (omega arith);
  compared = Compared-none _ _ _ _ _ _;
  never_resets = omega arith;
}

pub returns-in-Some-clause-steps : goal.returns-in-Some-clause-steps
returns-in-Some-clause-steps g c = record {
  at_most = Compared-le _ _ _ _ _ _ _ (Compared-group _ _ _ _ _ _ _ _ _ _ (c.walk.invariant.here c.walk-test.true) c.walk.invariant.compared c.find_at-found.ensures.compared);
  never_resets = omega (arith, c.walk.invariant.never_resets, c.find_at-found.ensures.never_resets);
}

pub returns-then-has_no_overflow-clause-steps : goal.returns-then-has_no_overflow-clause-steps
returns-then-has_no_overflow-clause-steps g c = record {
  at_most = Compared-le _ _ _ _ _ _ _ (Compared-group _ _ _ _ _ _ _ _ _ _ (c.walk.invariant.here c.walk-test.true) c.walk.invariant.compared c.find_at-found.ensures.compared);
  never_resets = omega (arith, c.walk.invariant.never_resets, c.find_at-found.ensures.never_resets);
}

pub returns-then-has_no_overflow-clause-absent : goal.returns-then-has_no_overflow-clause-absent
returns-then-has_no_overflow-clause-absent g c = λ slot found.
    none_at_stop _ _ _ (λ s. IsSomeAnd (item_at c.args.store.now s) (λ x. g.Q.Equivalent.equivalent c.args.query.now (g.K.KeyOf.key x) ≡ true)) c.requires.placed c.walk.at c.walk.step c.walk.invariant.within (c.walk.invariant.here c.walk-test.true) c.walk.invariant.missed
    c.in_default.ensures.missed (c.has_no_overflow.ensures.0 c.if-has_no_overflow.true) slot found.0 found.1

pub walk-preserved : goal.walk-preserved
walk-preserved g c =
    let here = c.walk.invariant.here c.walk-test.true in
    let within = c.walk.invariant.within in
    record {
      within = c.after-at.ensures.bound;
      here = λ more. c.after-at.ensures.step (home_of (length c.args.groups.now) c.args.hash) (home_of-lt _ c.args.hash (omega arith))
          (λ e. let last = subst (λ a. steps_to (length c.args.groups.now) a c.walk.at + 1 ≡ length c.args.groups.now) e c.after-at.ensures.last in omega arith) ∙ ap (λ n. n + 1) here;
      missed = AllMissed-more _ _ _ (λ s. IsSomeAnd (item_at c.args.store.now s) (λ x. g.Q.Equivalent.equivalent c.args.query.now (g.K.KeyOf.key x) ≡ true)) c.requires.placed c.walk.at c.walk.step within here c.walk.invariant.missed c.in_default.ensures.missed;
      compared = Compared-group _ _ _ _ _ _ _ _ _ _ here c.walk.invariant.compared c.find_at-found.ensures.compared;
      never_resets = omega (arith, c.walk.invariant.never_resets, c.find_at-found.ensures.never_resets);
    }

pub returns-clause-absent : goal.returns-clause-absent
returns-clause-absent g c = λ slot found. none_at_end _ _ _ (λ s. IsSomeAnd (item_at c.args.store.now s) (λ x. g.Q.Equivalent.equivalent c.args.query.now (g.K.KeyOf.key x) ≡ true)) c.walk.step c.walk.invariant.missed (omega arith) slot found.0 found.1

pub returns-clause-steps : goal.returns-clause-steps
returns-clause-steps g c = record { at_most = Compared-le _ _ _ _ _ _ _ c.walk.invariant.compared; never_resets = c.walk.invariant.never_resets }
