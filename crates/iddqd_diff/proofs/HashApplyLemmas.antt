-- Applying the differences of two hash maps, one after the other, whose items stand in no order.
--     hash_after_one      one more was applied
--     ends      after the last difference, the map has a clone of each new item
use Rattle.std.proofs.Common.{Bool, List, [], ◌∷◌, ◌++◌, filter_map, sym, subst}
use Rattle.std.specs.Prelude.{⊤}
use Rattle.std.proofs.lemmas.List.Sorted.{IsPermutation-cons, IsPermutation-insert, IsPermutation-middle, IsPermutation-trans}
use Rattle.std.specs.Cmp.{IsEquivalence}
use Rattle.std.specs.List.Sorted.{IsPermutation}
use Rattle.iddqd.specs.Contents.{AddsItem, ClonesKeepKeys, NoTwoAkin}
use Rattle.iddqd_diff.specs.Applying.{AppliesOne, HoldsClones, IsUnderway}
use Rattle.iddqd_diff.specs.declared.difference.Difference.{Difference}
use Rattle.iddqd_diff.specs.Difference.{new_item}
use Rattle.iddqd_diff.proofs.ApplyLemmas.{after_one, has_new, holds_done, moved_lists}

added_somewhere : {T : Type 0} (v : T) (done left after next : List T) → IsPermutation (done ++ left) after → AddsItem v after next → IsPermutation (done ++ v ∷ left) next
added_somewhere v done left after next joined adds =
    IsPermutation-trans _ _ _ (IsPermutation-middle done v left)
    (IsPermutation-trans _ _ _ (IsPermutation-cons v (done ++ left) after joined)
    (subst (IsPermutation (v ∷ after)) (sym adds.put) (IsPermutation-insert after adds.place v)))

module _ {T K : Type 0} (key : T → K) (eq : K → K → Bool) (equivalence : IsEquivalence eq) (made : T → T → Type 0) (keeps : ClonesKeepKeys key eq made) (old new first : List T) where
  pub hash_after_one : (after next : List T) (d : Difference T T) (rest : List (Difference T T)) → IsUnderway key eq made IsPermutation (λ _. ⊤) old new first after (d ∷ rest) → NoTwoAkin key eq new → NoTwoAkin key eq after → AppliesOne key eq made d after next → IsUnderway key eq made IsPermutation (λ _. ⊤) old new first next rest
  hash_after_one after next d rest u news differ applied =
      after_one key eq equivalence made keeps IsPermutation (λ _. ⊤) (moved_lists key eq equivalence) old new first after next rest d u news differ applied
      (λ v one adds. added_somewhere v u.done u.left after next u.joined adds)

  pub ends : (after : List T) → IsUnderway key eq made IsPermutation (λ _. ⊤) old new first after [] → HoldsClones made new after
  ends after u =
      let laws = moved_lists key eq equivalence in (
        filter_map new_item u.applied,
        u.done,
        has_new key eq equivalence made keeps IsPermutation (λ _. ⊤) laws old new first after u,
        u.clones,
        holds_done key eq equivalence made keeps IsPermutation (λ _. ⊤) laws old new first after u,
      )
