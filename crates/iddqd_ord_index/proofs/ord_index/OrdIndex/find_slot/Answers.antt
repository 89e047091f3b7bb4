use Rattle.std.proofs.Common.{Ok, Err, length, subst, sym, ap, arith}
use Rattle.iddqd_ord_index.specs.Digits.{digits}
use Rattle.iddqd_ord_index.specs.Standing.{slot_standing, IsMonotone, IsPlace}
use Rattle.iddqd_store.proofs.CountingLemmas.{CountsAtMost-le}
use Rattle.iddqd_ord_index.proofs.HeightLemmas.{height_bound}
use Rattle.iddqd_ord_index.proofs.StandingLemmas.{monotone, placed}
use Rattle.iddqd_ord_index.proofs.ord_index.OrdIndex.find_slot.Goals as goal

pub find-requires-clause-monotone : goal.find-requires-clause-monotone
find-requires-clause-monotone g c = subst (λ i. IsMonotone (slot_standing g.T.IdOrdItem.key (g.Q.Comparable.compare c.args.query.now) c.args.store.now) i.slots) (sym c.self.view_is) (monotone g.T.IdOrdItem.key (g.Q.Comparable.compare c.args.query.now) c.args.store.now c.args.self.now.slots c.requires.occupied g.met.T.Key.Ord.total (g.met.Q.Comparable.less_above c.args.query.now) (g.met.Q.Comparable.greater_below c.args.query.now) c.requires.ascending)

pub returns-in-Ok-clause-place : goal.returns-in-Ok-clause-place
returns-in-Ok-clause-place g c =
    placed g.T.IdOrdItem.key (g.Q.Comparable.compare c.args.query.now) c.args.store.now c.args.self.now.slots c.requires.occupied (Ok c.in-Ok.position) (subst (λ i. IsPlace (slot_standing g.T.IdOrdItem.key (g.Q.Comparable.compare c.args.query.now) c.args.store.now) i.slots (Ok c.in-Ok.position)) c.self.view_is c.in-Ok.ensures.place)

pub returns-in-Ok-clause-steps : goal.returns-in-Ok-clause-steps
returns-in-Ok-clause-steps g c = CountsAtMost-le c.in-Ok.ensures.steps (omega (arith, height_bound c.self.inside.root c.self.invariant.dense c.self.invariant.top, ap (λ i. digits (length i.slots)) c.self.view_is))

pub returns-in-Err-clause-place : goal.returns-in-Err-clause-place
returns-in-Err-clause-place g c =
    placed g.T.IdOrdItem.key (g.Q.Comparable.compare c.args.query.now) c.args.store.now c.args.self.now.slots c.requires.occupied (Err c.in-Err.position) (subst (λ i. IsPlace (slot_standing g.T.IdOrdItem.key (g.Q.Comparable.compare c.args.query.now) c.args.store.now) i.slots (Err c.in-Err.position)) c.self.view_is c.in-Err.ensures.place)

pub returns-in-Err-clause-steps : goal.returns-in-Err-clause-steps
returns-in-Err-clause-steps g c = CountsAtMost-le c.in-Err.ensures.steps (omega (arith, height_bound c.self.inside.root c.self.invariant.dense c.self.invariant.top, ap (λ i. digits (length i.slots)) c.self.view_is))
