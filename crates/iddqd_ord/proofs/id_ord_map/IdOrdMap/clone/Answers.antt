use Rattle.std.proofs.Common.{sym, ap, subst, rules}
use Rattle.std.proofs.lemmas.Result.{err_from_is_err_and}
use Rattle.std.specs.List.{AllZip}
use Rattle.iddqd_ord_index.specs.Listed.{listed_items}
use Rattle.iddqd_store.proofs.CloneLemmas.{ascends_clones}
use Rattle.iddqd_ord.specs.StoreAndIndex.{ListsOccupied}
use Rattle.iddqd_ord.proofs.CloneLemmas.{paired_copied, listed_clones}
use Rattle.iddqd_ord.proofs.id_ord_map.IdOrdMap.clone.Goals as goal

pub invariant_of-result : goal.invariant_of-result
invariant_of-result g c =
    let m = c.self.inside in
    let copy = c.in-Ok.store in
    subst (ListsOccupied copy) (sym (ap (λ i. i.slots) c.in_ok-index.ensures.ok))
    (paired_copied g.T.Clone.is_clone m.store copy c.in-Ok.ensures.clones m.index.slots c.self.invariant c.in-Ok.ensures.len)

pub returns-in-Ok-clause-items : goal.returns-in-Ok-clause-items
returns-in-Ok-clause-items g c =
    let m = c.self.inside in
    let copy = c.in-Ok.store in
    subst (λ slots. AllZip g.T.Clone.is_clone c.args.self.now.items (listed_items copy slots)) (sym (ap (λ i. i.slots) c.in_ok-index.ensures.ok))
    (subst (λ v. AllZip g.T.Clone.is_clone v.items (listed_items copy m.index.slots)) c.self.view_is
    (listed_clones g.T.Clone.is_clone m.store copy c.in-Ok.ensures.clones m.index.slots))

pub returns-in-Ok-clause-keyed : goal.returns-in-Ok-clause-keyed
returns-in-Ok-clause-keyed g c =
    ascends_clones g.T.IdOrdItem.key g.T.Clone.is_clone c.requires.keeps_keys g.met.T.Key.Ord.total g.met.T.Key.Ord.matches_eq c.args.self.now.items _ (returns-in-Ok-clause-items g c) c.requires.keyed

pub returns-in-Ok-clause-slots : goal.returns-in-Ok-clause-slots
returns-in-Ok-clause-slots g c = search rules

pub returns-in-Ok-clause-vacant : goal.returns-in-Ok-clause-vacant
returns-in-Ok-clause-vacant g c = search rules

pub returns-in_err-index : goal.returns-in_err-index
returns-in_err-index g c =
    let back = err_from_is_err_and c.from_residual.result c.from_residual.ensures.1 in
    rw back.1 (record {
      items = tt;
      slots = tt;
      vacant = tt;
      limit = tt;
      keyed = tt;
      only_memory = search rules;
    })

pub returns-in-Err : goal.returns-in-Err
returns-in-Err g c = record {
  items = tt;
  slots = tt;
  vacant = tt;
  limit = tt;
  keyed = tt;
  only_memory = search rules;
}
