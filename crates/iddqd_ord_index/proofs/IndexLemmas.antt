-- An index stays one as its list changes.
use Rattle.std.proofs.Common.{◌≡◌, ◌+◌, ◌<◌, ◌≤◌, ℕ, Bool, false, IsTrue, List, [], ◌++◌, length, set, drop, sym, ap, ◌∙◌, subst, true≢false, arith, nat_eq}
use Rattle.std.specs.Cmp.{nat_eq_equiv}
use Rattle.std.proofs.lemmas.List.Edits.{length-insert}
use Rattle.std.specs.List.{Contains, IsDistinct, insert, remove}
use Rattle.iddqd_ord_index.specs.Changes.{Stock, WantsFor}
use Rattle.iddqd_ord_index.specs.IndexParts.{IsIndex}
use Rattle.iddqd_ord_index.specs.Runs.{Run, IsRunOf}
use Rattle.iddqd_ord_index.specs.Shape.{Subtree, unused, IsDense}
use Rattle.iddqd_ord_index.specs.declared.ord_index.OrdIndex.TheInside.{Inside}
use Rattle.iddqd_store.proofs.DistinctLemmas.{absent_apart, distinct_insert, distinct_remove, distinct_set}

none_distinct : IsDistinct nat_eq []
unfolding IsDistinct
none_distinct = tt

-- an index that is as it was
pub kept_index : (i : Inside) (root : Subtree) (pool : Stock) → root ≡ i.root → pool ≡ i.pool → IsIndex i → IsIndex (record i { root = root; pool = pool })
kept_index i root pool e p h = rw (e, p) h

-- an index that is not prepared has nothing ready
pub unready : {P : Type 0} (b : Bool) → b ≡ false → IsTrue b → P
unready b e t = absurd (true≢false (sym t ∙ e))

-- no slots are a run anywhere
pub empty_run : (run : Run) (all : List ℕ) → run.slots ≡ [] → IsRunOf run all
empty_run run all e = (drop run.start all, sym (ap (λ l. l ++ drop run.start all) e))

pub empty_index : (i : Inside) → i.root ≡ unused → i.len ≡ 0 → i.levels ≡ 1 → i.prepared ≡ false → i.cache.slots ≡ [] → IsIndex i
empty_index i r l h p e =
    let n : length i.root.slots ≡ 0 = ap (λ t. length t.slots) r in
    let k : i.root.height ≡ 1 = ap (λ t. t.height) r in
    record {
      each_once = subst (λ t. IsDistinct nat_eq t.slots) (sym r) none_distinct;
      numbered = omega arith;
      len = omega arith;
      levels = omega arith;
      dense = rw r (record { low = omega arith; many = omega arith });
      top = λ lt. absurd (omega arith);
      wanted = λ lt. absurd (omega arith);
      ready = λ t. unready i.prepared p t;
      cached = empty_run i.cache i.root.slots e;
    }

module _ (slots : List ℕ) (once : IsDistinct nat_eq slots) where
  pub once_insert : (i slot : ℕ) → ¬ Contains slots slot → IsDistinct nat_eq (insert slots i slot)
  once_insert i slot absent = distinct_insert nat_eq nat_eq_equiv.symm slot slots i (absent_apart slots slot absent) once

  pub once_remove : (i : ℕ) → IsDistinct nat_eq (remove slots i)
  once_remove i = distinct_remove nat_eq slots i once

  pub once_set : (i slot : ℕ) → ¬ Contains slots slot → IsDistinct nat_eq (set slots i slot)
  once_set i slot absent = distinct_set nat_eq nat_eq_equiv.symm slot slots i (absent_apart slots slot absent) once

-- an index before its number of slots is mended: its tree has a slot more, and nothing is kept of what was read last
pub record IsAdded (i : Inside) (place slot : ℕ) (j : Inside) : Type 0 where
  pub list : j.root.slots ≡ insert i.root.slots place slot
  pub len : j.len ≡ i.len
  pub levels : j.levels ≡ j.root.height
  pub dense : IsDense j.root
  pub top : 1 < j.root.height → 1 ≤ j.root.width
  pub wanted : 1 < j.levels → WantsFor j.levels j.pool
  pub prepared : j.prepared ≡ false
  pub cached : j.cache.slots ≡ []

pub added_index : (i : Inside) (place slot : ℕ) (j : Inside) → IsIndex i → place ≤ length i.root.slots → ¬ Contains i.root.slots slot → length i.root.slots < 4294967295 → IsAdded i place slot j → IsIndex (record j { len = j.len + 1 })
added_index i place slot j h within absent room a =
    let n = length-insert i.root.slots place slot within in
    record {
      each_once = subst (λ l. IsDistinct nat_eq l) (sym a.list) (once_insert i.root.slots h.each_once place slot absent);
      numbered = omega (arith, ap length a.list);
      len = omega (arith, ap length a.list, a.len, h.len);
      levels = a.levels;
      dense = a.dense;
      top = a.top;
      wanted = a.wanted;
      ready = λ t. unready j.prepared a.prepared t;
      cached = empty_run j.cache j.root.slots a.cached;
    }
