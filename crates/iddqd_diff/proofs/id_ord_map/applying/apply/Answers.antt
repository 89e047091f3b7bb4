use Rattle.std.proofs.Common.{◌≡◌, ◌∙◌, refl, subst, sym}
use Rattle.std.proofs.lemmas.Result.{err_from_is_err_and}
use Rattle.std.specs.List.Sorted.{IsStrictlySortedBy}
use Rattle.iddqd_diff.specs.Applying.{IsUnderway}
use Rattle.iddqd_diff.specs.Difference.{shown}
use Rattle.iddqd_diff.proofs.ApplyLemmas.{begins, equal_lists}
use Rattle.iddqd_diff.proofs.OrdApplyLemmas.{ends, ord_after_one}
use Rattle.iddqd_diff.proofs.id_ord_map.applying.apply.Goals as goal

pub loop-difference-init : goal.loop-difference-init
loop-difference-init g c =
    let key = g.T.IdOrdItem.key in
    let eq = g.T.Key.PartialEq.eq in
    let made = g.T.Clone.is_clone in
    let before = c.args.before.now.items in
    let after = c.args.after.now.items in
    let items = c.args.map.now.items in
    let ds = c.diff-difference-items.result in
    let d = c.diff-difference-items.ensures in (
      tt,
      tt,
      c.requires.keyed,
      refl,
      subst (IsUnderway key eq made (λ xs ys. xs ≡ ys) (IsStrictlySortedBy g.T.Key.Ord.cmp) before after items items) (sym c.into_iter-difference-iterator.ensures.into_iter_gives)
          (begins key eq g.met.T.Key.Eq.laws made c.requires.keeps_keys (λ xs ys. xs ≡ ys) (IsStrictlySortedBy g.T.Key.Ord.cmp) (equal_lists key eq) before after items items ds
          (record { olds = d.old; news = d.new; ascends = d.ascends; akin = d.akin; removed = d.removed; added = d.added }) c.requires.same_keys refl),
    )

pub loop-difference-preserved : goal.loop-difference-preserved
loop-difference-preserved g c =
    let key = g.T.IdOrdItem.key in
    let cmp = g.T.Key.Ord.cmp in
    let eq = g.T.Key.PartialEq.eq in
    let made = g.T.Clone.is_clone in
    let before = c.args.before.now.items in
    let after = c.args.after.now.items in
    let first = c.args.map.now.items in
    let items = c.loop-difference.map.items in
    let d = shown c.in-Some.difference in
    let rest = c.next.new.self in
    let inv = c.loop-difference.invariant in
    let one = c.in_ok-apply_one.ensures in (
      tt,
      tt,
      one.keyed,
      one.limit ∙ inv.3,
      ord_after_one key cmp g.met.T.Key.Ord.total eq g.met.T.Key.Ord.matches_eq made c.requires.keeps_keys before after first items g.met.T.Key.Eq.laws d rest c.apply_one.new.map.items
          (subst (IsUnderway key eq made (λ xs ys. xs ≡ ys) (IsStrictlySortedBy cmp) before after first items) c.in-Some.ensures.steps inv.4)
          c.requires.after_keyed inv.2 one.applied one.keyed,
    )

pub returns-in_err-apply_one : goal.returns-in_err-apply_one
returns-in_err-apply_one g c =
    let key = g.T.IdOrdItem.key in
    let eq = g.T.Key.PartialEq.eq in
    let made = g.T.Clone.is_clone in
    let inv = c.loop-difference.invariant in
    let one = c.in_err-apply_one.ensures in
    let back = err_from_is_err_and c.from_residual.result c.from_residual.ensures.1 in
    let rest = c.loop-difference.difference-iterator in
    rw back.1 (record {
      applied = tt;
      stopped = (rest, subst (λ xs. IsUnderway key eq made (λ ys zs. ys ≡ zs) (IsStrictlySortedBy g.T.Key.Ord.cmp) c.args.before.now.items c.args.after.now.items c.args.map.now.items xs rest) (sym one.kept) inv.4);
      kind = rw back.2 one.kind;
      limit = one.limit ∙ inv.3;
      keyed = one.keyed;
    })

pub returns : goal.returns
returns g c =
    let key = g.T.IdOrdItem.key in
    let cmp = g.T.Key.Ord.cmp in
    let eq = g.T.Key.PartialEq.eq in
    let made = g.T.Clone.is_clone in
    let before = c.args.before.now.items in
    let after = c.args.after.now.items in
    let first = c.args.map.now.items in
    let items = c.loop-difference.map.items in
    let inv = c.loop-difference.invariant in
    record {
      applied = ends key cmp g.met.T.Key.Ord.total eq g.met.T.Key.Ord.matches_eq made c.requires.keeps_keys before after first items g.met.T.Key.Eq.laws
          (subst (IsUnderway key eq made (λ xs ys. xs ≡ ys) (IsStrictlySortedBy cmp) before after first items) c.in-None.ensures.steps.0 inv.4);
      stopped = tt;
      kind = tt;
      limit = inv.3;
      keyed = inv.2;
    }
