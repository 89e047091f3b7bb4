-- Applying the differences of two maps, one after the other, to a map of the old one's keys, for maps of either kind.
--     KeepsLists, equal_lists, moved_lists      what lists of the same items share, if in the same order, or in any
--     begins      before the first difference
--     after_one, AddsOne      one more was applied; what was inserted then
--     holds_done, has_new      after the last, the clones are all items of the map, and stand for all new ones
use Rattle.std.proofs.Common.{◌≡◌, Bool, true, false, List, [], ◌∷◌, ◌++◌, map, filter, filter_map, Option, Some, None, is_some, is_none, cond, refl, sym, ap, true≢false, ◌∙◌, subst}
use Rattle.std.proofs.lemmas.List.{append_assoc, append-nil}
use Rattle.std.proofs.lemmas.List.Elements.{All-tail, All-head, AllZip-push, filter_map-append, filter_passes}
use Rattle.std.proofs.lemmas.List.Folds.{find-append}
use Rattle.std.proofs.lemmas.List.Sorted.{IsPermutation-map, IsPermutation-sym}
use Rattle.std.specs.Cmp.{IsEquivalence}
use Rattle.std.specs.List.{All, AllByRecursion, AllZip, IsDistinct}
use Rattle.std.specs.List.Sorted.{IsPermutation}
use Rattle.std.specs.Option.{option_or}
use Rattle.iddqd.specs.Contents.{AddsItem, ClonesKeepKeys, IsAbsent, NoTwoAkin, find_item, items_overwritten, items_without}
use Rattle.iddqd.proofs.OrderLemmas.{differ_moved, find_moved}
use Rattle.iddqd_diff.specs.Applying.{AppliesOne, AreDifferences, HaveEqualKeys, IsUnderway, PutsClone}
use Rattle.iddqd_diff.specs.declared.difference.Difference.{Difference}
use Rattle.iddqd_diff.specs.declared.difference.Difference.TheVariants.{Removed, Added, Kept}
use Rattle.iddqd_diff.specs.Difference.{IsAkin, added_item, lacks, new_item, old_item}
use Rattle.iddqd.proofs.PermutationLemmas.{filter_permutation}
use Rattle.iddqd_diff.proofs.SameKeysLemmas.{clones_have_equal_keys}

-- what stays for lists that have the same items
pub record KeepsLists {T K : Type 0} (key : T → K) (eq : K → K → Bool) (same : List T → List T → Type 0) : Type 0 where
  pub filters : (p : T → Bool) (xs ys : List T) → same xs ys → same (filter p xs) (filter p ys)
  pub maps : (f : T → T) (xs ys : List T) → same xs ys → same (map f xs) (map f ys)
  pub differs : (xs ys : List T) → same xs ys → NoTwoAkin key eq ys → NoTwoAkin key eq xs
  pub finds : (k : K) (xs ys : List T) → same xs ys → NoTwoAkin key eq xs → find_item key (eq k) ys ≡ find_item key (eq k) xs

module _ {T K : Type 0} (key : T → K) (eq : K → K → Bool) where
  pub equal_lists : KeepsLists key eq (λ xs ys. xs ≡ ys)
  equal_lists = record {
    filters = λ p xs ys e. ap (filter p) e;
    maps = λ f xs ys e. ap (map f) e;
    differs = λ xs ys e d. subst (NoTwoAkin key eq) (sym e) d;
    finds = λ k xs ys e d. ap (find_item key (eq k)) (sym e);
  }

  pub moved_lists : IsEquivalence eq → KeepsLists key eq IsPermutation
  moved_lists equivalence = record {
    filters = λ p xs ys e. filter_permutation p xs ys e;
    maps = λ f xs ys e. IsPermutation-map f xs ys e;
    differs = λ xs ys e d. differ_moved key equivalence ys xs (IsPermutation-sym xs ys e) d;
    finds = λ k xs ys e d. find_moved key equivalence (eq k) (λ x y t. equivalence.congr k x y t) xs ys e d;
  }

  -- of the items without one whose key is k, none has that key
  none_without : (k : K) (items : List T) → AllByRecursion (λ m. eq k m ≡ false) (map key items) → items_without key (eq k) items ≡ items
  none_without k [] a = refl
  none_without k (x ∷ items) a = rw a.0 (ap (λ xs. x ∷ xs) (none_without k items a.1))

  none_written : (k : K) (y : T) (items : List T) → AllByRecursion (λ m. eq k m ≡ false) (map key items) → items_overwritten key (eq k) y items ≡ items
  none_written k y [] a = refl
  none_written k y (x ∷ items) a = rw a.0 (ap (λ xs. x ∷ xs) (none_written k y items a.1))

  of_middle : (P : K → Type 0) (w : T) (done left : List T) → AllByRecursion P (map key (done ++ w ∷ left)) → P (key w)
  of_middle P w [] left a = a.0
  of_middle P w (x ∷ done) left a = of_middle P w done left a.1

  passes_middle : (P : T → Type 0) (y : T) (xs ys : List T) → All P (xs ++ y ∷ ys) → P y
  passes_middle P y [] ys a = All-head P y ys a
  passes_middle P y (x ∷ xs) ys a = passes_middle P y xs ys (All-tail P x (xs ++ y ∷ ys) a)

  second_none : (a b : Option T) → option_or a b ≡ None → b ≡ None
  second_none None b e = e
  second_none (Some x) b e = absurd (true≢false (ap is_some e))

module _ {T K : Type 0} (key : T → K) (eq : K → K → Bool) (equivalence : IsEquivalence eq) where
  alike : (k m l : K) → eq k m ≡ true → eq m l ≡ false → eq k l ≡ false
  alike k m l e f = equivalence.congr k m l e ∙ f

  all_alike : (k m : K) (items : List T) → eq k m ≡ true → AllByRecursion (λ l. eq m l ≡ false) (map key items) → AllByRecursion (λ l. eq k l ≡ false) (map key items)
  all_alike k m [] e a = tt
  all_alike k m (x ∷ items) e a = (alike k m (key x) e a.0, all_alike k m items e a.1)

  -- the item w, whose key is k, stands among others of different keys
  module _ (k : K) (w : T) (e : eq k (key w) ≡ true) where
    -- an item before it has another key than k
    before : (d : T) (done left : List T) → AllByRecursion (λ m. eq (key d) m ≡ false) (map key (done ++ w ∷ left)) → eq k (key d) ≡ false
    before d done left a =
        let apart : eq (key d) (key w) ≡ false = of_middle key eq (λ m. eq (key d) m ≡ false) w done left a in
        alike k (key w) (key d) e (equivalence.symm (key w) (key d) ∙ apart)

    without_one : (done left : List T) → NoTwoAkin key eq (done ++ w ∷ left) → items_without key (eq k) (done ++ w ∷ left) ≡ done ++ left
    unfolding IsDistinct
    without_one [] left s = rw e (none_without key eq k left (all_alike k (key w) left e s.0))
    without_one (d ∷ done) left s = rw (before d done left s.0) (ap (λ xs. d ∷ xs) (without_one done left s.1))

    one_written : (v : T) (done left : List T) → NoTwoAkin key eq (done ++ w ∷ left) → items_overwritten key (eq k) v (done ++ w ∷ left) ≡ done ++ v ∷ left
    unfolding IsDistinct
    one_written v [] left s = rw e (ap (λ xs. v ∷ xs) (none_written key eq k v left (all_alike k (key w) left e s.0)))
    one_written v (d ∷ done) left s = rw (before d done left s.0) (ap (λ xs. d ∷ xs) (one_written v done left s.1))

    one_found : (done left : List T) → NoTwoAkin key eq (done ++ w ∷ left) → find_item key (eq k) (done ++ w ∷ left) ≡ Some w
    unfolding IsDistinct
    one_found [] left s = rw e refl
    one_found (d ∷ done) left s = rw (before d done left s.0) (one_found done left s.1)

  -- an item whose key those before it differ from
  front_apart : (y : T) (fs gs : List T) → NoTwoAkin key eq (fs ++ y ∷ gs) → AllByRecursion (λ k. eq (key y) k ≡ false) (map key fs)
  unfolding IsDistinct
  front_apart y [] gs s = tt
  front_apart y (f ∷ fs) gs s =
      let apart : eq (key f) (key y) ≡ false = of_middle key eq (λ m. eq (key f) m ≡ false) y fs gs s.0 in
      (equivalence.symm (key y) (key f) ∙ apart, front_apart y fs gs s.1)

  none_found : (k : K) (items : List T) → find_item key (eq k) items ≡ None → AllByRecursion (λ m. eq k m ≡ false) (map key items)
  none_found k [] e = tt
  none_found k (z ∷ items) e = by (eq k (key z)) refl e (none_found k items)
    where
      by : (b : Bool) → eq k (key z) ≡ b → cond b (Some z) (find_item key (eq k) items) ≡ None → (find_item key (eq k) items ≡ None → AllByRecursion (λ m. eq k m ≡ false) (map key items)) → (eq k (key z) ≡ false) × AllByRecursion (λ m. eq k m ≡ false) (map key items)
      by true h e rest = absurd (true≢false (ap is_some e))
      by false h e rest = (h, rest e)

  -- a key that others differ from is found among none whose keys are equal to theirs
  apart_there : (k : K) (xs ys : List T) → AllByRecursion (λ m. eq k m ≡ false) (map key xs) → HaveEqualKeys key eq xs ys → find_item key (eq k) ys ≡ None
  unfolding HaveEqualKeys
  apart_there k [] [] a z = refl
  apart_there k [] (y ∷ ys) a z = absurd z
  apart_there k (x ∷ xs) [] a z = refl
  apart_there k (x ∷ xs) (y ∷ ys) a z =
      let same : eq (key y) k ≡ eq (key x) k = sym (equivalence.congr (key x) (key y) k z.0) in
      let other : eq k (key y) ≡ false = equivalence.symm k (key y) ∙ same ∙ equivalence.symm (key x) k ∙ a.0 in
      rw other (apart_there k xs ys a.1 z.1)

  module _ (made : T → T → Type 0) (keeps : ClonesKeepKeys key eq made) (same : List T → List T → Type 0) (in_order : List K → Type 0) (laws : KeepsLists key eq same) where
    -- v is a clone of the item that is added
    abbrev pub AddsOne : Difference T T → T → Type 0
    AddsOne (Removed x) v = ⊥
    AddsOne (Added y) v = made y v
    AddsOne (Kept x y) v = ⊥

    pub begins : (old new moved items : List T) (ds : List (Difference T T)) → AreDifferences key eq same in_order old new ds → HaveEqualKeys key eq old moved → same moved items → IsUnderway key eq made same in_order old new items items ds
    unfolding HaveEqualKeys
    begins old new moved items ds differ keys s = record {
      applied = [];
      differ = differ;
      gone = [];
      left = moved;
      parted = s;
      gone_keys = tt;
      left_keys = subst (λ xs. HaveEqualKeys key eq xs moved) (sym differ.olds) keys;
      done = [];
      clones = tt;
      joined = s;
    }

    module _ (old new first after next : List T) (rest : List (Difference T T)) where
      -- one more difference was applied
      step : (d : Difference T T) (u : IsUnderway key eq made same in_order old new first after (d ∷ rest)) (gone left done : List T) → same (gone ++ left) first → same (done ++ left) next → HaveEqualKeys key eq (filter_map old_item (u.applied ++ d ∷ [])) gone → HaveEqualKeys key eq (filter_map old_item rest) left → AllZip made (filter_map new_item (u.applied ++ d ∷ [])) done → IsUnderway key eq made same in_order old new first next rest
      step d u gone left done parted joined gone_keys left_keys clones = record {
        applied = u.applied ++ d ∷ [];
        differ = subst (AreDifferences key eq same in_order old new) (sym (append_assoc u.applied (d ∷ []) rest)) u.differ;
        gone = gone;
        left = left;
        parted = parted;
        gone_keys = gone_keys;
        left_keys = left_keys;
        done = done;
        clones = clones;
        joined = joined;
      }

      -- what the differences that were applied give, with one more
      more : (h : Difference T T → Option T) (d : Difference T T) (applied : List (Difference T T)) → filter_map h (applied ++ d ∷ []) ≡ filter_map h applied ++ filter_map h (d ∷ [])
      more h d applied = filter_map-append h applied (d ∷ [])

      pushed : (x w : T) (xs ws : List T) → HaveEqualKeys key eq xs ws → eq (key x) (key w) ≡ true → HaveEqualKeys key eq (xs ++ x ∷ []) (ws ++ w ∷ [])
      unfolding HaveEqualKeys
      pushed x w xs ws z e = AllZip-push (λ a b. eq (key a) (key b) ≡ true) xs ws x w z e

      after_removed : (x : T) → IsUnderway key eq made same in_order old new first after (Removed x ∷ rest) → NoTwoAkin key eq after → next ≡ items_without key (eq (key x)) after → IsUnderway key eq made same in_order old new first next rest
      unfolding HaveEqualKeys
      after_removed x u differ e = by u.left u.left_keys u.parted u.joined
        where
          by : (left : List T) → HaveEqualKeys key eq (x ∷ filter_map old_item rest) left → same (u.gone ++ left) first → same (u.done ++ left) after → IsUnderway key eq made same in_order old new first next rest
          by [] z p j = absurd z
          by (w ∷ left) z p j =
              let without = without_one (key x) w z.0 u.done left (laws.differs (u.done ++ w ∷ left) after j differ) in
              step (Removed x) u (u.gone ++ w ∷ []) left u.done
              (subst (λ xs. same xs first) (sym (append_assoc u.gone (w ∷ []) left)) p)
              (subst (λ xs. same xs next) without (subst (same (items_without key (eq (key x)) (u.done ++ w ∷ left))) (sym e) (laws.filters _ (u.done ++ w ∷ left) after j)))
              (subst (λ xs. HaveEqualKeys key eq xs (u.gone ++ w ∷ [])) (sym (more old_item (Removed x) u.applied)) (pushed x w (filter_map old_item u.applied) u.gone u.gone_keys z.0))
              z.1
              (subst (λ xs. AllZip made xs u.done) (sym (more new_item (Removed x) u.applied ∙ append-nil (filter_map new_item u.applied))) u.clones)

      after_kept : (x y : T) → IsUnderway key eq made same in_order old new first after (Kept x y ∷ rest) → NoTwoAkin key eq after → PutsClone key eq made y after next → IsUnderway key eq made same in_order old new first next rest
      unfolding HaveEqualKeys
      after_kept x y u differ puts = by u.left u.left_keys u.parted u.joined
        where
          akin : eq (key x) (key y) ≡ true
          akin = akin_middle u.applied u.differ.akin
            where
              akin_middle : (ds : List (Difference T T)) → All (IsAkin key eq) (ds ++ Kept x y ∷ rest) → eq (key x) (key y) ≡ true
              akin_middle [] a = All-head (IsAkin key eq) (Kept x y) rest a
              akin_middle (d ∷ ds) a = akin_middle ds (All-tail (IsAkin key eq) d (ds ++ Kept x y ∷ rest) a)

          by : (left : List T) → HaveEqualKeys key eq (x ∷ filter_map old_item rest) left → same (u.gone ++ left) first → same (u.done ++ left) after → IsUnderway key eq made same in_order old new first next rest
          by [] z p j = absurd z
          by (w ∷ left) z p j =
              let v = puts.clone in
              let yw : eq (key y) (key w) ≡ true = sym (equivalence.congr (key x) (key y) (key w) akin) ∙ z.0 in
              let vw : eq (key v) (key w) ≡ true = sym (equivalence.congr (key y) (key v) (key w) (keeps y v puts.is_made)) ∙ yw in
              let apart = laws.differs (u.done ++ w ∷ left) after j differ in
              let found : find_item key (eq (key v)) after ≡ Some w = laws.finds (key v) (u.done ++ w ∷ left) after j apart ∙ one_found (key v) w vw u.done left apart in
              let written = one_written (key v) w vw v u.done left apart in
              let joined : same (u.done ++ v ∷ left) next = subst (λ xs. same xs next) written (subst (same (items_overwritten key (eq (key v)) v (u.done ++ w ∷ left))) (sym (puts.replaced (ap is_some found))) (laws.maps _ (u.done ++ w ∷ left) after j)) in
              step (Kept x y) u (u.gone ++ w ∷ []) left (u.done ++ v ∷ [])
              (subst (λ xs. same xs first) (sym (append_assoc u.gone (w ∷ []) left)) p)
              (subst (λ xs. same xs next) (sym (append_assoc u.done (v ∷ []) left)) joined)
              (subst (λ xs. HaveEqualKeys key eq xs (u.gone ++ w ∷ [])) (sym (more old_item (Kept x y) u.applied)) (pushed x w (filter_map old_item u.applied) u.gone u.gone_keys z.0))
              z.1
              (subst (λ xs. AllZip made xs (u.done ++ v ∷ [])) (sym (more new_item (Kept x y) u.applied)) (AllZip-push made (filter_map new_item u.applied) u.done y v u.clones puts.is_made))

      module _ (y : T) (u : IsUnderway key eq made same in_order old new first after (Added y ∷ rest)) where
        lacking : lacks key eq old y ≡ true
        lacking =
            let among = filter_map-append added_item u.applied (Added y ∷ rest) in
            passes_middle key eq (λ z. lacks key eq old z ≡ true) y (filter_map added_item u.applied) (filter_map added_item rest)
            (subst (All (λ z. lacks key eq old z ≡ true)) (sym u.differ.added ∙ among) (filter_passes (lacks key eq old) new))

        -- neither the clones nor the items that are left have the key of y
        absent : (v : T) → eq (key v) (key y) ≡ true → NoTwoAkin key eq new → IsAbsent key (eq (key v)) (u.done ++ u.left)
        absent v e differ =
            let news : NoTwoAkin key eq (filter_map new_item u.applied ++ y ∷ filter_map new_item rest) =
            subst (NoTwoAkin key eq) (filter_map-append new_item u.applied (Added y ∷ rest)) (laws.differs _ new u.differ.news differ) in
            let in_done = apart_there (key v) (filter_map new_item u.applied) u.done
            (all_alike (key v) (key y) (filter_map new_item u.applied) e (front_apart y (filter_map new_item u.applied) (filter_map new_item rest) news))
            (clones_have_equal_keys key eq made (filter_map new_item u.applied) u.done u.clones keeps) in
            let nowhere : find_item key (eq (key y)) old ≡ None = none_of (find_item key (eq (key y)) old) lacking in
            let olds = sym (filter_map-append old_item u.applied (Added y ∷ rest)) ∙ u.differ.olds in
            let behind : find_item key (eq (key y)) (filter_map old_item rest) ≡ None = second_none key eq _ _
            (sym (find-append (λ x. eq (key y) (key x)) (filter_map old_item u.applied) (filter_map old_item rest)) ∙ ap (find_item key (eq (key y))) olds ∙ nowhere) in
            let in_left = apart_there (key v) (filter_map old_item rest) u.left
            (all_alike (key v) (key y) (filter_map old_item rest) e (none_found (key y) (filter_map old_item rest) behind))
            u.left_keys in
            find-append (λ x. eq (key v) (key x)) u.done u.left ∙ (λ i. option_or (in_done i) (in_left i))
          where
            none_of : (o : Option T) → is_none o ≡ true → o ≡ None
            none_of None h = refl
            none_of (Some x) h = absurd (true≢false (sym h))

        after_added : NoTwoAkin key eq new → NoTwoAkin key eq after → (puts : PutsClone key eq made y after next) → (AddsItem puts.clone after next → same (u.done ++ puts.clone ∷ u.left) next) → IsUnderway key eq made same in_order old new first next rest
        after_added news differ puts adds =
            let v = puts.clone in
            let vy : eq (key v) (key y) ≡ true = equivalence.symm (key v) (key y) ∙ keeps y v puts.is_made in
            let nowhere : IsAbsent key (eq (key v)) after = laws.finds (key v) (u.done ++ u.left) after u.joined (laws.differs (u.done ++ u.left) after u.joined differ) ∙ absent v vy news in
            step (Added y) u u.gone u.left (u.done ++ v ∷ [])
            u.parted
            (subst (λ xs. same xs next) (sym (append_assoc u.done (v ∷ []) u.left)) (adds (puts.inserted nowhere)))
            (subst (λ xs. HaveEqualKeys key eq xs u.gone) (sym (more old_item (Added y) u.applied ∙ append-nil (filter_map old_item u.applied))) u.gone_keys)
            u.left_keys
            (subst (λ xs. AllZip made xs (u.done ++ v ∷ [])) (sym (more new_item (Added y) u.applied)) (AllZip-push made (filter_map new_item u.applied) u.done y v u.clones puts.is_made))

      -- one more difference was applied; an item that was added stands where `adds` says
      pub after_one : (d : Difference T T) (u : IsUnderway key eq made same in_order old new first after (d ∷ rest)) → NoTwoAkin key eq new → NoTwoAkin key eq after → AppliesOne key eq made d after next → ((v : T) → AddsOne d v → AddsItem v after next → same (u.done ++ v ∷ u.left) next) → IsUnderway key eq made same in_order old new first next rest
      after_one (Removed x) u news differ applied adds = after_removed x u differ applied
      after_one (Added y) u news differ applied adds = after_added y u news differ applied (adds applied.clone applied.is_made)
      after_one (Kept x y) u news differ applied adds = after_kept x y u differ applied

    module _ (old new first after : List T) (u : IsUnderway key eq made same in_order old new first after []) where
      -- nothing is left of the items as they were
      none_left : u.left ≡ []
      unfolding HaveEqualKeys
      none_left = by u.left u.left_keys
        where
          by : (left : List T) → HaveEqualKeys key eq [] left → left ≡ []
          by [] z = refl
          by (x ∷ left) z = absurd z

      pub holds_done : same u.done after
      holds_done = subst (λ xs. same xs after) (ap (λ xs. u.done ++ xs) none_left ∙ append-nil u.done) u.joined

      pub has_new : same (filter_map new_item u.applied) new
      has_new = subst (λ xs. same (filter_map new_item xs) new) (append-nil u.applied) u.differ.news
