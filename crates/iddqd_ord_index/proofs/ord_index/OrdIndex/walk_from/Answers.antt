use Rattle.std.proofs.Common.{Ok, Err, length, subst, sym, ap, arith}
use Rattle.iddqd_ord_index.specs.Digits.{digits}
use Rattle.iddqd_ord_index.specs.Standing.{slot_standing, IsMonotone, IsPlace}
use Rattle.iddqd_store.proofs.CountingLemmas.{CountsAtMost-le}
use Rattle.iddqd_ord_index.proofs.HeightLemmas.{height_bound}
use Rattle.iddqd_ord_index.proofs.StandingLemmas.{monotone, placed}
use Rattle.iddqd_ord_index.proofs.ord_index.OrdIndex.walk_from.Goals as goal

pub find_leaves-requires-clause-monotone : goal.find_leaves-requires-clause-monotone
find_leaves-requires-clause-monotone g c = subst (λ i. IsMonotone (slot_standing g.T.IdOrdItem.key (g.Q.Comparable.compare c.args.query.now) c.args.store.now) i.slots) (sym c.self.view_is) (monotone g.T.IdOrdItem.key (g.Q.Comparable.compare c.args.query.now) c.args.store.now c.args.self.now.slots c.requires.occupied g.met.T.Key.Ord.total (g.met.Q.Comparable.less_above c.args.query.now) (g.met.Q.Comparable.greater_below c.args.query.now) c.requires.ascending)

pub returns-in-Ok-default-clause-place : goal.returns-in-Ok-default-clause-place
returns-in-Ok-default-clause-place g c =
    let place = rw c.in-Ok-default.is-0 at c.find_leaves.ensures.place in
    placed g.T.IdOrdItem.key (g.Q.Comparable.compare c.args.query.now) c.args.store.now c.args.self.now.slots c.requires.occupied (Ok c.in-Ok-default.position) (subst (λ i. IsPlace (slot_standing g.T.IdOrdItem.key (g.Q.Comparable.compare c.args.query.now) c.args.store.now) i.slots (Ok c.in-Ok-default.position)) c.self.view_is place)

pub returns-in-Ok-default-clause-steps : goal.returns-in-Ok-default-clause-steps
returns-in-Ok-default-clause-steps g c = CountsAtMost-le c.find_leaves.ensures.steps (omega (arith, height_bound c.self.inside.root c.self.invariant.dense c.self.invariant.top, ap (λ i. digits (length i.slots)) c.self.view_is))

pub returns-in-Err-default-clause-place : goal.returns-in-Err-default-clause-place
returns-in-Err-default-clause-place g c =
    let place = rw c.in-Err-default.is-0 at c.find_leaves.ensures.place in
    placed g.T.IdOrdItem.key (g.Q.Comparable.compare c.args.query.now) c.args.store.now c.args.self.now.slots c.requires.occupied (Err c.in-Err-default.position) (subst (λ i. IsPlace (slot_standing g.T.IdOrdItem.key (g.Q.Comparable.compare c.args.query.now) c.args.store.now) i.slots (Err c.in-Err-default.position)) c.self.view_is place)

pub returns-in-Err-default-clause-steps : goal.returns-in-Err-default-clause-steps
returns-in-Err-default-clause-steps g c = CountsAtMost-le c.find_leaves.ensures.steps (omega (arith, height_bound c.self.inside.root c.self.invariant.dense c.self.invariant.top, ap (λ i. digits (length i.slots)) c.self.view_is))
