-- Items are put in one after the other, and none replaces another, in a map of any keys.
--     UniqueLaws      what a kind of map tells of its items, so that the lemmas hold
--     by_one_key      a map of one key tells it
--     collected_differ, shows_first      what the items in a map say of those that were collected
--     adds_none, adds_last      nothing was put in; one item more, which meets none there
--     conflicts_first      an item that meets one that is there by then
--     halts_adding      one is not put in
use Rattle.std.proofs.Common.{◌≡◌, ◌∙◌, ℕ, Bool, List, [], ◌∷◌, ◌++◌, ap, sym, subst, IsPermutation}
use Rattle.std.proofs.lemmas.List.{append-nil, append_assoc}
use Rattle.std.proofs.lemmas.List.Sorted.{IsPermutation-refl, IsPermutation-sym}
use Rattle.std.specs.Cmp.{IsEquivalence}
use Rattle.std.specs.List.{insert}
use Rattle.iddqd_store.specs.Adding.{HaltsAdding, HaltsAt}
use Rattle.iddqd_store.specs.Collecting.{AddsAll, Meets}
use Rattle.iddqd_store.specs.Contents.{AddsItem, IsAbsent, NoTwoAkin}
use Rattle.iddqd_store.specs.Errors.{duplicates_of}
use Rattle.iddqd_store.specs.Holding.{Holding, KeepsItems}
use Rattle.iddqd_store.specs.Refusal.{refusal_kind}
use Rattle.iddqd_store.specs.Unique as unique
use Rattle.iddqd_store.specs.declared.errors.FromIterError.{FromIterError}
use Rattle.iddqd_store.specs.declared.errors.FromIterError.TheVariants.{Duplicate, Refused}
use Rattle.iddqd_store.specs.declared.errors.ExtendError.{ExtendError}
use Rattle.iddqd_store.specs.declared.not_inserted.NotInserted.{NotInserted}
use Rattle.iddqd_store.specs.declared.not_inserted.NotInserted.TheVariants.{Akin, NoRoom}
use Rattle.iddqd_store.proofs.CollectingLemmas.{collects_last}
use Rattle.iddqd_store.proofs.KeepsLemmas.{differ_insert}
use Rattle.iddqd_store.proofs.OrderLemmas.{differ_moved, find_moved}

-- the order of the items plays no part, and an item that meets none may be inserted
pub record UniqueLaws {T : Type 0} (Differ : List T → Type 0) (Meets : T → List T → List T → Type 0) : Type 0 where
  pub differ_moved : (xs ys : List T) → IsPermutation xs ys → Differ xs → Differ ys
  pub meets_moved : (xs ys : List T) → IsPermutation xs ys → Differ xs → (x : T) (met : List T) → Meets x xs met → Meets x ys met
  pub differ_insert : (x : T) (items : List T) (place : ℕ) → Meets x items [] → Differ items → Differ (insert items place x)

module _ {T K : Type 0} (key : T → K) {eq : K → K → Bool} (equivalence : IsEquivalence eq) where
  meets_moved : (xs ys : List T) → IsPermutation xs ys → NoTwoAkin key eq xs → (x : T) (met : List T) → Meets key eq x xs met → Meets key eq x ys met
  meets_moved xs ys moved differ x [] none = find_moved key equivalence (eq (key x)) (equivalence.congr (key x)) xs ys moved differ ∙ none
  meets_moved xs ys moved differ x (there ∷ []) found = find_moved key equivalence (eq (key x)) (equivalence.congr (key x)) xs ys moved differ ∙ found
  meets_moved xs ys moved differ x (a ∷ b ∷ more) never = absurd never

  pub by_one_key : UniqueLaws (NoTwoAkin key eq) (Meets key eq)
  by_one_key = record {
    differ_moved = differ_moved key equivalence;
    meets_moved = meets_moved;
    differ_insert = differ_insert key equivalence;
  }

module _ {T : Type 0} {Differ : List T → Type 0} {Meets : T → List T → List T → Type 0} (laws : UniqueLaws Differ Meets) where
  module _ (xs items : List T) (same : IsPermutation xs items) (differ : Differ items) where
    pub collected_differ : Differ xs
    collected_differ = laws.differ_moved items xs (IsPermutation-sym xs items same) differ

    pub first_repeat : (x : T) (met : List T) → Meets x items met → unique.IsFirstRepeat Differ Meets xs x met
    first_repeat x met meets = record {
      differ = collected_differ;
      akin = laws.meets_moved items xs (IsPermutation-sym xs items same) differ x met meets;
    }

    pub shows_first : (gives : List T → T → Type 0) (x : T) (e : FromIterError T) → gives xs x → unique.ShowsMet Meets items x e → unique.ShowsFirstRepeat Differ Meets gives e
    shows_first gives x (Duplicate d) came shown =
        (xs, subst (gives xs) (sym shown.0) came, subst (λ y. unique.IsFirstRepeat Differ Meets xs y (duplicates_of d)) (sym shown.0) (first_repeat x (duplicates_of d) shown.1))
    shows_first gives x (Refused r) came shown = tt

  pub adds_none : (old : List T) → Differ old → unique.AddsAll Differ [] old old
  adds_none old differ = record {
    differ = subst Differ (sym (append-nil old)) differ;
    same = subst (λ l. IsPermutation l old) (sym (append-nil old)) (IsPermutation-refl old);
  }

  module _ (xs old middle : List T) (adds : unique.AddsAll Differ xs old middle) (x : T) where
    -- no two of the existing items have a key in common
    added_differ : Differ middle
    added_differ = laws.differ_moved (old ++ xs) middle adds.same adds.differ

    pub adds_last : (new : List T) → Meets x middle [] → AddsItem x middle new → unique.AddsAll Differ (xs ++ x ∷ []) old new
    adds_last new none added =
        let same : IsPermutation (old ++ (xs ++ x ∷ [])) new =
        subst (λ l. IsPermutation l new) (append_assoc old xs (x ∷ [])) (collects_last x (old ++ xs) middle new adds.same added) in
        let differ : Differ new = subst Differ (sym added.put) (laws.differ_insert x middle added.place none added_differ) in
        record {
          differ = laws.differ_moved new (old ++ (xs ++ x ∷ [])) (IsPermutation-sym (old ++ (xs ++ x ∷ [])) new same) differ;
          same = same;
        }

    pub conflicts_first : (met : List T) → Meets x middle met → unique.IsFirstConflict Differ Meets old xs x met
    conflicts_first = first_repeat (old ++ xs) middle adds.same added_differ x

module _ {T K : Type 0} (key : T → K) {eq : K → K → Bool} (equivalence : IsEquivalence eq) (gives : List T → T → Type 0) (old middle new : Holding T) (before : List T) (adds : AddsAll key eq before old.items middle.items) (limit : middle.limit ≡ old.limit) (kept : KeepsItems middle new) (x : T) (came : gives before x) where
  pub halts_adding : (h : NotInserted T (ExtendError T)) → HaltsAt key eq x middle h → HaltsAdding key eq gives old new h
  halts_adding (Akin y slot) at = (
    at.1,
    (
      before,
      subst (gives before) (sym at.0) came,
      subst (λ z. unique.IsFirstConflict (NoTwoAkin key eq) (Meets key eq) old.items before z (at.1 ∷ [])) (sym at.0) (conflicts_first (by_one_key key equivalence) before old.items middle.items adds x (at.1 ∷ []) at.2),
      subst (AddsAll key eq before old.items) (sym kept.items) adds,
    ),
    rw (kept.slots, kept.items) at.3,
  )
  halts_adding (NoRoom e) at =
      let absent = subst (IsAbsent key (eq (key x))) (sym kept.items) at.1.0 in
      let kind = at.1.1 ∙ ap (λ l. refusal_kind l middle.items) limit ∙ ap (refusal_kind old.limit) (sym kept.items) in
      rw at.0 ((before, came, subst (AddsAll key eq before old.items) (sym kept.items) adds, (absent, kind)), tt)
