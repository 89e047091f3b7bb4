use Rattle.std.proofs.Common.{Some, Ok, Err, length, nat_eq, refl, sym, ap, subst, ◌∙◌, arith}
use Rattle.std.proofs.lemmas.List.Edits.{length-remove}
use Rattle.std.proofs.lemmas.Option.{slice_get-get_or}
use Rattle.std.specs.List.{IsDistinct, remove, slice_get}
use Rattle.iddqd_ord_index.specs.Digits.{digits}
use Rattle.iddqd_ord_index.specs.Listed.{unprepared}
use Rattle.iddqd_ord_index.specs.NodeRemoval.{Loses}
use Rattle.iddqd_ord_index.specs.Standing.{slot_standing, IsMonotone, IsPlace}
use Rattle.iddqd_store.proofs.CountingLemmas.{CountsAtMost-le}
use Rattle.iddqd_ord_index.proofs.HeightLemmas.{height_bound}
use Rattle.iddqd_ord_index.proofs.IndexLemmas.{empty_run, once_remove, unready}
use Rattle.iddqd_ord_index.proofs.StandingLemmas.{monotone, placed}
use Rattle.iddqd_ord_index.proofs.ord_index.OrdIndex.remove_by_key.Goals as goal

pub remove_by_key-slot-requires-clause-monotone : goal.remove_by_key-slot-requires-clause-monotone
remove_by_key-slot-requires-clause-monotone g c = subst (λ i. IsMonotone (slot_standing g.T.IdOrdItem.key (g.Q.Comparable.compare c.args.query.now) c.args.store.now) i.slots) (sym c.self.view_is) (monotone g.T.IdOrdItem.key (g.Q.Comparable.compare c.args.query.now) c.args.store.now c.args.self.now.slots c.requires.occupied g.met.T.Key.Ord.total (g.met.Q.Comparable.less_above c.args.query.now) (g.met.Q.Comparable.greater_below c.args.query.now) c.requires.ascending)

pub invariant_of-self : goal.invariant_of-self
invariant_of-self g c =
    let r = subst (λ o. Loses (slot_standing g.T.IdOrdItem.key (g.Q.Comparable.compare c.args.query.now) c.args.store.now) c.self.inside.root.slots o c.remove_by_key-slot.new.root.slots) c.in_err-slot.was c.remove_by_key-slot.ensures.slots in
    record {
      each_once = subst (λ l. IsDistinct nat_eq l) (sym r.1) c.self.invariant.each_once;
      numbered = omega (arith, ap length r.1, c.self.invariant.numbered);
      len = omega (arith, ap length r.1, c.self.invariant.len);
      levels = c.remove_by_key-slot.ensures.levels;
      dense = c.remove_by_key-slot.ensures.dense;
      top = c.remove_by_key-slot.ensures.top;
      wanted = c.remove_by_key-slot.ensures.wanted;
      ready = λ t. unready _ refl t;
      cached = empty_run c.clear.new.self c.remove_by_key-slot.new.root.slots c.clear.ensures;
    }

pub returns-in_err-slot-clause-after : goal.returns-in_err-slot-clause-after
returns-in_err-slot-clause-after g c =
    let r = subst (λ o. Loses (slot_standing g.T.IdOrdItem.key (g.Q.Comparable.compare c.args.query.now) c.args.store.now) c.self.inside.root.slots o c.remove_by_key-slot.new.root.slots) c.in_err-slot.was c.remove_by_key-slot.ensures.slots in
    let v = ap (λ i. i.slots) c.self.view_is in
    let p = subst (λ l. IsPlace (slot_standing g.T.IdOrdItem.key (g.Q.Comparable.compare c.args.query.now) c.args.store.now) l (Err r.0.0)) v r.0.1 in
    rw c.from_residual.ensures (
      (r.0.0, placed g.T.IdOrdItem.key (g.Q.Comparable.compare c.args.query.now) c.args.store.now c.args.self.now.slots c.requires.occupied (Err r.0.0) p),
      ap unprepared (r.1 ∙ v),
    )

pub returns-in_err-slot-clause-steps : goal.returns-in_err-slot-clause-steps
returns-in_err-slot-clause-steps g c =
    CountsAtMost-le c.remove_by_key-slot.ensures.steps (omega (arith, height_bound c.self.inside.root c.self.invariant.dense c.self.invariant.top, ap (λ i. digits (length i.slots)) c.self.view_is))

pub invariant_of-self-2 : goal.invariant_of-self-2
invariant_of-self-2 g c =
    let r = subst (λ o. Loses (slot_standing g.T.IdOrdItem.key (g.Q.Comparable.compare c.args.query.now) c.args.store.now) c.self.inside.root.slots o c.remove_by_key-slot.new.root.slots) c.in_ok-slot.was c.remove_by_key-slot.ensures.slots in
    let slots = c.self.inside.root.slots in
    let n = length-remove slots r.0 r.2.0 in
    record {
      each_once = subst (λ l. IsDistinct nat_eq l) (sym r.3) (once_remove slots c.self.invariant.each_once r.0);
      numbered = omega (arith, ap length r.3, c.self.invariant.numbered);
      len = omega (arith, ap length r.3, c.self.invariant.len, r.2.0);
      levels = c.remove_by_key-slot.ensures.levels;
      dense = c.remove_by_key-slot.ensures.dense;
      top = c.remove_by_key-slot.ensures.top;
      wanted = c.remove_by_key-slot.ensures.wanted;
      ready = λ t. unready _ refl t;
      cached = empty_run c.clear.new.self c.remove_by_key-slot.new.root.slots c.clear.ensures;
    }

pub returns-clause-after : goal.returns-clause-after
returns-clause-after g c =
    let r = subst (λ o. Loses (slot_standing g.T.IdOrdItem.key (g.Q.Comparable.compare c.args.query.now) c.args.store.now) c.self.inside.root.slots o c.remove_by_key-slot.new.root.slots) c.in_ok-slot.was c.remove_by_key-slot.ensures.slots in
    let v = ap (λ i. i.slots) c.self.view_is in
    let p = subst (λ l. IsPlace (slot_standing g.T.IdOrdItem.key (g.Q.Comparable.compare c.args.query.now) c.args.store.now) l (Ok r.0)) v r.2 in (
      r.0,
      placed g.T.IdOrdItem.key (g.Q.Comparable.compare c.args.query.now) c.args.store.now c.args.self.now.slots c.requires.occupied (Ok r.0) p,
      ap (λ l. slice_get l r.0) (sym v) ∙ (slice_get-get_or c.self.inside.root.slots r.0 0 r.2.0 ∙ ap Some (sym r.1)),
      ap unprepared (r.3 ∙ ap (λ l. remove l r.0) v),
    )

pub returns-clause-steps : goal.returns-clause-steps
returns-clause-steps g c =
    CountsAtMost-le c.remove_by_key-slot.ensures.steps (omega (arith, height_bound c.self.inside.root c.self.invariant.dense c.self.invariant.top, ap (λ i. digits (length i.slots)) c.self.view_is))
