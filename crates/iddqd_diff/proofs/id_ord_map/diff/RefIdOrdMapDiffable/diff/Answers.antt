use Rattle.std.proofs.Common.{◌∙◌, ap, arith, filter, length, subst, sym}
use Rattle.iddqd.specs.Contents.{Ascends}
use Rattle.iddqd_diff.specs.Difference.{lacks}
use Rattle.iddqd_diff.proofs.MergedLemmas.{added_items, all_akin, ascending, length_most, new_items, old_items, removed_items}
use Rattle.iddqd_diff.proofs.id_ord_map.diff.RefIdOrdMapDiffable.diff.Goals as goal

pub returns-clause-old : goal.returns-clause-old
returns-clause-old g c = old_items g.T.IdOrdItem.key g.T.Key.Ord.cmp c.over.result c.over-2.result ∙ c.over.ensures ∙ c.iter.ensures.items

pub returns-clause-new : goal.returns-clause-new
returns-clause-new g c = new_items g.T.IdOrdItem.key g.T.Key.Ord.cmp c.over.result c.over-2.result ∙ c.over-2.ensures ∙ c.iter-2.ensures.items

pub returns-clause-ascends : goal.returns-clause-ascends
returns-clause-ascends g c =
    let key = g.T.IdOrdItem.key in
    let cmp = g.T.Key.Ord.cmp in
    ascending key cmp g.met.T.Key.Ord.total c.over.result c.over-2.result
    (subst (Ascends key cmp) (sym (c.over.ensures ∙ c.iter.ensures.items)) c.requires.keyed.0)
    (subst (Ascends key cmp) (sym (c.over-2.ensures ∙ c.iter-2.ensures.items)) c.requires.keyed.1)

pub returns-clause-akin : goal.returns-clause-akin
returns-clause-akin g c = all_akin g.T.IdOrdItem.key g.T.Key.Ord.cmp g.met.T.Key.Ord.total g.T.Key.PartialEq.eq g.met.T.Key.Ord.matches_eq c.over.result c.over-2.result

pub returns-clause-removed : goal.returns-clause-removed
returns-clause-removed g c =
    let key = g.T.IdOrdItem.key in
    let cmp = g.T.Key.Ord.cmp in
    let eq = g.T.Key.PartialEq.eq in
    let before = c.over.ensures ∙ c.iter.ensures.items in
    let after = c.over-2.ensures ∙ c.iter-2.ensures.items in
    removed_items key cmp g.met.T.Key.Ord.total eq g.met.T.Key.Ord.matches_eq c.over.result c.over-2.result
    (subst (Ascends key cmp) (sym before) c.requires.keyed.0) (subst (Ascends key cmp) (sym after) c.requires.keyed.1)
    ∙ ap (λ xs. filter (lacks key eq c.over-2.result) xs) before ∙ ap (λ ys. filter (lacks key eq ys) c.args.self.now.items) after

pub returns-clause-added : goal.returns-clause-added
returns-clause-added g c =
    let key = g.T.IdOrdItem.key in
    let cmp = g.T.Key.Ord.cmp in
    let eq = g.T.Key.PartialEq.eq in
    let before = c.over.ensures ∙ c.iter.ensures.items in
    let after = c.over-2.ensures ∙ c.iter-2.ensures.items in
    added_items key cmp g.met.T.Key.Ord.total eq g.met.T.Key.Ord.matches_eq c.over.result c.over-2.result
    (subst (Ascends key cmp) (sym before) c.requires.keyed.0) (subst (Ascends key cmp) (sym after) c.requires.keyed.1)
    ∙ ap (λ xs. filter (lacks key eq c.over.result) xs) after ∙ ap (λ ys. filter (lacks key eq ys) c.args.after.now.items) before

pub returns-clause-at_most : goal.returns-clause-at_most
returns-clause-at_most g c =
    omega (arith, length_most g.T.IdOrdItem.key g.T.Key.Ord.cmp c.over.result c.over-2.result, ap length c.over.ensures, ap length c.iter.ensures.items, ap length c.over-2.ensures, ap length c.iter-2.ensures.items)

pub returns-clause-fits : goal.returns-clause-fits
returns-clause-fits g c =
    omega (arith, length_most g.T.IdOrdItem.key g.T.Key.Ord.cmp c.over.result c.over-2.result, ap length c.over.ensures, c.iter.ensures.fits, ap length c.over-2.ensures, c.iter-2.ensures.fits)
