use Rattle.std.proofs.Common.{◌∙◌, refl, subst, sym}
use Rattle.std.proofs.lemmas.Result.{err_from_is_err_and}
use Rattle.std.specs.Prelude.{⊤}
use Rattle.std.specs.List.Sorted.{IsPermutation}
use Rattle.iddqd.specs.IdHashMap.{differ_from_keyed}
use Rattle.iddqd_diff.specs.Applying.{IsUnderway}
use Rattle.iddqd_diff.specs.Difference.{shown}
use Rattle.iddqd_diff.proofs.ApplyLemmas.{begins, moved_lists}
use Rattle.iddqd_diff.proofs.HashApplyLemmas.{ends, hash_after_one}
use Rattle.iddqd_diff.proofs.SameKeysLemmas.{order_of}
use Rattle.iddqd_diff.proofs.id_hash_map.applying.apply.Goals as goal

pub loop-difference-init : goal.loop-difference-init
loop-difference-init g c =
    let key = g.T.IdHashItem.key in
    let eq = g.T.Key.PartialEq.eq in
    let laws = g.met.T.Key.Eq.laws in
    let same = order_of key eq c.args.before.now.items c.args.map.now.items c.requires.same_keys in
    let d = c.diff-differences.ensures in (
      c.requires.keyed,
      refl,
      begins key eq laws g.T.Clone.is_clone c.requires.keeps_keys IsPermutation (λ _. ⊤) (moved_lists key eq laws) c.args.before.now.items c.args.after.now.items same.0 c.args.map.now.items c.diff-differences.result
          (record { olds = d.old; news = d.new; ascends = d.ascends; akin = d.akin; removed = d.removed; added = d.added }) same.2 same.1,
    )

pub loop-difference-preserved : goal.loop-difference-preserved
loop-difference-preserved g c =
    let key = g.T.IdHashItem.key in
    let eq = g.T.Key.PartialEq.eq in
    let made = g.T.Clone.is_clone in
    let before = c.args.before.now.items in
    let after = c.args.after.now.items in
    let first = c.args.map.now.items in
    let items = c.loop-difference.map.items in
    let d = shown c.in-Some.difference in
    let rest = c.next.new.self in
    let inv = c.loop-difference.invariant in
    let one = c.in_ok-apply_one.ensures in (
      one.keyed,
      one.limit ∙ inv.1,
      hash_after_one key eq g.met.T.Key.Eq.laws made c.requires.keeps_keys before after first items c.apply_one.new.map.items d rest
          (subst (IsUnderway key eq made IsPermutation (λ _. ⊤) before after first items) c.in-Some.ensures.steps inv.2)
          (differ_from_keyed key eq _ _ c.args.after.now c.requires.after_keyed)
          (differ_from_keyed key eq _ _ c.loop-difference.map inv.0)
          one.applied,
    )

pub returns-in_err-apply_one : goal.returns-in_err-apply_one
returns-in_err-apply_one g c =
    let key = g.T.IdHashItem.key in
    let eq = g.T.Key.PartialEq.eq in
    let made = g.T.Clone.is_clone in
    let inv = c.loop-difference.invariant in
    let one = c.in_err-apply_one.ensures in
    let back = err_from_is_err_and c.from_residual.result c.from_residual.ensures.1 in
    let rest = c.loop-difference.differences in
    rw back.1 (record {
      applied = tt;
      stopped = (rest, subst (λ xs. IsUnderway key eq made IsPermutation (λ _. ⊤) c.args.before.now.items c.args.after.now.items c.args.map.now.items xs rest) (sym one.kept) inv.2);
      kind = rw back.2 one.kind;
      limit = one.limit ∙ inv.1;
      keyed = one.keyed;
    })

pub returns : goal.returns
returns g c =
    let key = g.T.IdHashItem.key in
    let eq = g.T.Key.PartialEq.eq in
    let made = g.T.Clone.is_clone in
    let before = c.args.before.now.items in
    let after = c.args.after.now.items in
    let first = c.args.map.now.items in
    let items = c.loop-difference.map.items in
    let inv = c.loop-difference.invariant in
    record {
      applied = ends key eq g.met.T.Key.Eq.laws made c.requires.keeps_keys before after first items
          (subst (IsUnderway key eq made IsPermutation (λ _. ⊤) before after first items) c.in_default.ensures.steps.0 inv.2);
      stopped = tt;
      kind = tt;
      limit = inv.1;
      keyed = inv.0;
    }
