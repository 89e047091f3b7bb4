use Rattle.std.proofs.Common.{◌∙◌, ap, filter_map, rules, subst, sym}
use Rattle.iddqd_diff.specs.Applying.{HaveEqualKeys}
use Rattle.iddqd_diff.specs.Difference.{added_item, old_item, removed_item}
use Rattle.iddqd_diff.proofs.SameKeysLemmas.{same_keys}
use Rattle.iddqd_diff.proofs.id_ord_map.same_keys.have_same_keys.Goals as goal

pub returns-clause-equal : goal.returns-clause-equal
returns-clause-equal g c =
    let key = g.T.IdOrdItem.key in
    let eq = g.T.Key.PartialEq.eq in
    let ds = c.diff-difference-items.result in
    let d = c.diff-difference-items.ensures in
    let same = c.into_iter-difference-iterator.ensures.into_iter_gives in
    let end = c.in-None.ensures.steps.0 in
    λ _. subst (λ xs. HaveEqualKeys key eq xs c.args.after.now.items) d.old
    (subst (λ ys. HaveEqualKeys key eq (filter_map old_item ds) ys) d.new
    (same_keys key eq ds
    (ap (filter_map removed_item) (sym same) ∙ c.loop-difference.invariant.2 ∙ ap (filter_map removed_item) end)
    (ap (filter_map added_item) (sym same) ∙ c.loop-difference.invariant.3 ∙ ap (filter_map added_item) end)
    d.akin))

pub returns-in-Removed : goal.returns-in-Removed
returns-in-Removed g c = search rules
