use Rattle.std.proofs.Common.{◌∙◌, ap, arith, refl, subst, sym, rules}
use Rattle.std.proofs.lemmas.Result.{err_from_is_err_and}
use Rattle.std.specs.List.{AllZip}
use Rattle.iddqd_store.specs.Hashing.{hash_under}
use Rattle.iddqd_hash_parts.specs.StoreAndIndex.{items_in}
use Rattle.iddqd_hash_parts.proofs.CloneLemmas.{same_slots, cloned_items, paired_copied}
use Rattle.iddqd_hash_parts.proofs.FoundLemmas.{same_numbers}
use Rattle.iddqd_bi_hash.specs.BiHashItems.{IsKeyedByBoth}
use Rattle.iddqd_bi_hash.specs.BiHashMap.{CloneHashesAlike}
use Rattle.iddqd_bi_hash.proofs.BothLemmas.{fits}
use Rattle.iddqd_bi_hash.proofs.PairedLemmas.{keyed_copied}
use Rattle.iddqd_bi_hash.proofs.bi_hash_map.BiHashMap.clone.Goals as goal

pub invariant_of-result : goal.invariant_of-result
invariant_of-result g c =
    let m = c.self.inside in
    let copy = c.in-Ok-try_clone.store in
    let made = c.in-Ok-try_clone.ensures in
    record {
      one = paired_copied g.T.Clone.is_clone m.store copy made.clones m.index1 c.in_ok-index1.index1 c.in_ok-index1.ensures.pairs c.self.invariant.one made.len (omega (arith, c.capacity.ensures.holds, c.capacity.ensures.number));
      other = paired_copied g.T.Clone.is_clone m.store copy made.clones m.index2 c.in_ok-index2.index2 c.in_ok-index2.ensures.pairs c.self.invariant.other made.len (omega (arith, c.capacity.ensures.holds, c.capacity.ensures.number));
    }

pub returns-clause-items : goal.returns-clause-items
returns-clause-items g c =
    let copy = c.in-Ok-try_clone.store in
    subst (λ v. AllZip g.T.Clone.is_clone v.items (items_in copy)) c.self.view_is
    (cloned_items g.T.Clone.is_clone c.self.inside.store copy c.in-Ok-try_clone.ensures.clones)

pub returns-clause-slots : goal.returns-clause-slots
returns-clause-slots g c =
    let store = c.self.inside.store in
    let copy = c.in-Ok-try_clone.store in
    same_numbers g.T.BiHashItem.key1 (λ slot. slot) copy.slots store.slots (same_slots g.T.Clone.is_clone store copy c.in-Ok-try_clone.ensures.clones)
    ∙ ap (λ v. v.slots) c.self.view_is

pub returns-clause-spare_fits : goal.returns-clause-spare_fits
returns-clause-spare_fits g c = fits c.in-Ok.hasher c.in-Ok-try_clone.store c.in_ok-index1.index1 c.in_ok-index2.index2 (invariant_of-result g c) _ refl

pub returns-clause-keyed : goal.returns-clause-keyed
returns-clause-keyed g c =
    let key1 = g.T.BiHashItem.key1 in
    let key2 = g.T.BiHashItem.key2 in
    let input1 = g.T.K1.Hash.hash_input in
    let input2 = g.T.K2.Hash.hash_input in
    let hash = hash_under g.S.BuildHasher g.S.Hasher.Hasher in
    let m = c.self.inside in
    let copy = c.in-Ok-try_clone in
    keyed_copied key1 key2 g.T.K1.PartialEq.eq g.T.K2.PartialEq.eq input1 input2 hash m.hasher m.store m.index1 m.index2
    (subst (IsKeyedByBoth key1 key2 g.T.K1.PartialEq.eq g.T.K2.PartialEq.eq input1 input2 hash) (sym c.self.view_is) c.requires.keyed)
    g.T.Clone.is_clone copy.store copy.ensures.clones c.in_ok-index1.index1 c.in_ok-index2.index2 c.in_ok-index1.ensures.pairs c.in_ok-index2.ensures.pairs
    g.met.T.K1.Eq.laws g.met.T.K2.Eq.laws g.met.T.K1.Hash.respects_eq g.met.T.K2.Hash.respects_eq c.requires.keeps_keys1 c.requires.keeps_keys2
    c.in-Ok.hasher (subst (λ v. CloneHashesAlike g.S.Clone.is_clone (λ m. hash m.hasher) v) (sym c.self.view_is) c.requires.hashes_alike c.in-Ok.hasher c.in-Ok.ensures.cases)

pub returns-clause-vacant : goal.returns-clause-vacant
returns-clause-vacant g c = search rules

pub returns-in_err-index1 : goal.returns-in_err-index1
returns-in_err-index1 g c =
    let back = err_from_is_err_and c.from_residual.result c.from_residual.ensures.1 in
    rw back.1 (record {
      items = tt;
      slots = tt;
      vacant = tt;
      limit = tt;
      hasher = tt;
      spare_fits = tt;
      keyed = tt;
      only_memory = search rules;
    })

pub returns-in_err-index2 : goal.returns-in_err-index2
returns-in_err-index2 g c =
    let back = err_from_is_err_and c.from_residual-in_err-index2.result c.from_residual-in_err-index2.ensures.1 in
    rw back.1 (record {
      items = tt;
      slots = tt;
      vacant = tt;
      limit = tt;
      hasher = tt;
      spare_fits = tt;
      keyed = tt;
      only_memory = search rules;
    })

pub returns-in_default : goal.returns-in_default
returns-in_default g c = record {
  items = tt;
  slots = tt;
  vacant = tt;
  limit = tt;
  hasher = tt;
  spare_fits = tt;
  keyed = tt;
  only_memory = search rules;
}

pub returns-in_default-try_clone : goal.returns-in_default-try_clone
returns-in_default-try_clone g c = record {
  items = tt;
  slots = tt;
  vacant = tt;
  limit = tt;
  hasher = tt;
  spare_fits = tt;
  keyed = tt;
  only_memory = search rules;
}
