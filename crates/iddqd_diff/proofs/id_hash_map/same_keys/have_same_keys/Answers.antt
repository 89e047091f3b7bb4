use Rattle.std.proofs.Common.{◌∙◌, ap, filter_map, rules, subst}
use Rattle.iddqd_diff.specs.Applying.{HaveEqualKeys}
use Rattle.iddqd_diff.specs.Difference.{added_item, new_item, removed_item}
use Rattle.iddqd_diff.proofs.SameKeysLemmas.{in_some_order, same_keys}
use Rattle.iddqd_diff.proofs.id_hash_map.same_keys.have_same_keys.Goals as goal

pub returns-clause-equal : goal.returns-clause-equal
returns-clause-equal g c =
    let key = g.T.IdHashItem.key in
    let eq = g.T.Key.PartialEq.eq in
    let ds = c.diff-differences.result in
    let d = c.diff-differences.ensures in
    let end = c.in_default.ensures.steps.0 in
    λ _. in_some_order key eq c.args.before.now.items c.args.after.now.items (filter_map new_item ds) d.new
    (subst (λ xs. HaveEqualKeys key eq xs (filter_map new_item ds)) d.old
    (same_keys key eq ds
    (c.loop-difference.invariant.2 ∙ ap (filter_map removed_item) end)
    (c.loop-difference.invariant.3 ∙ ap (filter_map added_item) end)
    d.akin))

pub returns-in-Removed : goal.returns-in-Removed
returns-in-Removed g c = search rules
