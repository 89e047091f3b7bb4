use Rattle.std.proofs.Common.{◌∙◌, ap, arith, subst, sym, rules}
use Rattle.std.proofs.lemmas.Result.{err_from_is_err_and}
use Rattle.std.specs.List.{AllZip}
use Rattle.iddqd_store.specs.Hashing.{hash_under}
use Rattle.iddqd_hash_parts.specs.HashItems.{IsKeyed, KeyedItems}
use Rattle.iddqd_hash.specs.HashMap.{CloneHashesAlike}
use Rattle.iddqd_hash_parts.specs.StoreAndIndex.{items_in}
use Rattle.iddqd_hash_parts.proofs.CloneLemmas.{same_slots, cloned_items, paired_copied, copied_keyed}
use Rattle.iddqd_hash_parts.proofs.FoundLemmas.{same_numbers}
use Rattle.iddqd_hash_parts.proofs.MapLemmas.{spare_fits}
use Rattle.iddqd_hash.proofs.id_hash_map.IdHashMap.clone.Goals as goal

pub invariant_of-result : goal.invariant_of-result
invariant_of-result g c =
    let m = c.self.inside in
    let copy = c.in-Ok-try_clone.store in
    let made = c.in-Ok-try_clone.ensures in
    paired_copied g.T.Clone.is_clone m.store copy made.clones m.index c.in_ok-index.index c.in_ok-index.ensures.pairs c.self.invariant made.len (omega (arith, c.capacity.ensures.holds, c.capacity.ensures.number))

pub returns-clause-items : goal.returns-clause-items
returns-clause-items g c =
    let copy = c.in-Ok-try_clone.store in
    subst (λ v. AllZip g.T.Clone.is_clone v.items (items_in copy)) c.self.view_is
    (cloned_items g.T.Clone.is_clone c.self.inside.store copy c.in-Ok-try_clone.ensures.clones)

pub returns-clause-slots : goal.returns-clause-slots
returns-clause-slots g c =
    let store = c.self.inside.store in
    let copy = c.in-Ok-try_clone.store in
    same_numbers g.T.IdHashItem.key (λ slot. slot) copy.slots store.slots (same_slots g.T.Clone.is_clone store copy c.in-Ok-try_clone.ensures.clones)
    ∙ ap (λ v. v.slots) c.self.view_is

pub returns-clause-spare_fits : goal.returns-clause-spare_fits
returns-clause-spare_fits g c = spare_fits c.in-Ok.hasher c.in-Ok-try_clone.store c.in_ok-index.index (invariant_of-result g c)

pub returns-clause-keyed : goal.returns-clause-keyed
unfolding IsKeyed
returns-clause-keyed g c =
    let key = g.T.IdHashItem.key in
    let eq = g.T.Key.PartialEq.eq in
    let input = g.T.Key.Hash.hash_input in
    let hash = hash_under g.S.BuildHasher g.S.Hasher.Hasher in
    let m = c.self.inside in
    let copy = c.in-Ok-try_clone.store in
    copied_keyed g.T.Clone.is_clone m.store copy c.in-Ok-try_clone.ensures.clones m.index c.in_ok-index.index c.in_ok-index.ensures.pairs
    key input hash g.met.T.Key.Eq.laws g.met.T.Key.Hash.respects_eq c.requires.keeps_keys m.hasher c.in-Ok.hasher (subst (λ v. CloneHashesAlike g.S.Clone.is_clone (λ m. hash m.hasher) v) (sym c.self.view_is) c.requires.hashes_alike c.in-Ok.hasher c.in-Ok.ensures.cases)
    (subst (KeyedItems key eq input hash) (sym c.self.view_is) c.requires.keyed)

pub returns-clause-vacant : goal.returns-clause-vacant
returns-clause-vacant g c = search rules

pub returns-in_err-index : goal.returns-in_err-index
returns-in_err-index g c =
    let back = err_from_is_err_and c.from_residual.result c.from_residual.ensures.1 in
    rw back.1 (record {
      items = tt;
      slots = tt;
      vacant = tt;
      limit = tt;
      hasher = tt;
      spare_fits = tt;
      keyed = tt;
      only_memory = search rules;
    })

pub returns-in_default : goal.returns-in_default
returns-in_default g c = record {
  items = tt;
  slots = tt;
  vacant = tt;
  limit = tt;
  hasher = tt;
  spare_fits = tt;
  keyed = tt;
  only_memory = search rules;
}

pub returns-in_default-try_clone : goal.returns-in_default-try_clone
returns-in_default-try_clone g c = record {
  items = tt;
  slots = tt;
  vacant = tt;
  limit = tt;
  hasher = tt;
  spare_fits = tt;
  keyed = tt;
  only_memory = search rules;
}
