use Rattle.std.proofs.Common.{◌++◌, ◌∙◌, ap, arith, filter, filter_map, length, subst, sym}
use Rattle.std.specs.List.Sorted.{IsPermutation}
use Rattle.iddqd.specs.Contents.{find_item}
use Rattle.iddqd.specs.IdHashMap.{differ_from_keyed}
use Rattle.iddqd_diff.specs.Difference.{lacks}
use Rattle.iddqd_diff.proofs.LookedUpLemmas.{added_items, all_akin, found_or_lacking, length_most, new_moved, old_items, removed_items}
use Rattle.iddqd_diff.proofs.id_hash_map.diff.RefIdHashMapDiffable.diff.Goals as goal

pub returns-clause-old : goal.returns-clause-old
returns-clause-old g c = old_items g.T.IdHashItem.key g.T.Key.PartialEq.eq c.args.self.now.items c.args.after.now.items c.iter.result c.iter-2.result ∙ c.iter.ensures.items

pub returns-clause-new : goal.returns-clause-new
returns-clause-new g c =
    let key = g.T.IdHashItem.key in
    let eq = g.T.Key.PartialEq.eq in
    let old = c.args.self.now.items in
    let new = c.args.after.now.items in
    let same = found_or_lacking key eq old new c.iter.result c.iter-2.result
    ∙ (λ i. filter_map (λ x. find_item key (eq (key x)) new) (c.iter.ensures.items i) ++ filter (lacks key eq old) (c.iter-2.ensures.items i)) in
    subst (λ xs. IsPermutation xs new) (sym same)
    (new_moved key eq g.met.T.Key.Eq.laws old new (differ_from_keyed key eq _ _ c.args.self.now c.requires.keyed.0) (differ_from_keyed key eq _ _ c.args.after.now c.requires.keyed.1))

pub returns-clause-akin : goal.returns-clause-akin
returns-clause-akin g c = all_akin g.T.IdHashItem.key g.T.Key.PartialEq.eq c.args.self.now.items c.args.after.now.items c.iter.result c.iter-2.result

pub returns-clause-removed : goal.returns-clause-removed
returns-clause-removed g c =
    let key = g.T.IdHashItem.key in
    let eq = g.T.Key.PartialEq.eq in
    removed_items key eq c.args.self.now.items c.args.after.now.items c.iter.result c.iter-2.result ∙ ap (filter (lacks key eq c.args.after.now.items)) c.iter.ensures.items

pub returns-clause-added : goal.returns-clause-added
returns-clause-added g c =
    let key = g.T.IdHashItem.key in
    let eq = g.T.Key.PartialEq.eq in
    added_items key eq c.args.self.now.items c.args.after.now.items c.iter.result c.iter-2.result ∙ ap (filter (lacks key eq c.args.self.now.items)) c.iter-2.ensures.items

pub returns-clause-at_most : goal.returns-clause-at_most
returns-clause-at_most g c =
    omega (arith, length_most g.T.IdHashItem.key g.T.Key.PartialEq.eq c.args.self.now.items c.args.after.now.items c.iter.result c.iter-2.result, ap length c.iter.ensures.items, ap length c.iter-2.ensures.items)

pub returns-clause-fits : goal.returns-clause-fits
returns-clause-fits g c =
    omega (arith, length_most g.T.IdHashItem.key g.T.Key.PartialEq.eq c.args.self.now.items c.args.after.now.items c.iter.result c.iter-2.result, c.iter.ensures.fits, c.iter-2.ensures.fits)
