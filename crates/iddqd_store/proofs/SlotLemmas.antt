-- What a write of one slot leaves of the items and the links.
use Rattle.std.proofs.Common.{◌≡◌, ◌≢◌, ℕ, zero, suc, ◌+◌, ◌-◌, ◌^◌, ◌<◌, ◌≤◌, List, [], ◌∷◌, ◌++◌, map, length, get_or, set, take, Option, Some, None, is_some, is_none, IsSome, count_by, cond, add-zero, refl, sym, ap, subst, ◌∙◌, inl, inr, arith}
use Rattle.std.proofs.lemmas.Bool.{cases_eq, cases_lt}
use Rattle.std.proofs.lemmas.List.{map-set, map_push, length-map, length-set, length_push, get_or-map, get_or-set_same, get_or-set_other, get_or_past, set-get_or, length-take, get_or-take, take-map, take_all, take_more}
use Rattle.std.proofs.lemmas.List.Sums.{sum_by-set, sum_by_push, sum_by-cons, get_or-le-sum_by}
use Rattle.iddqd_store.specs.declared.item_store.chain.Slot.{Slot}
use Rattle.iddqd_store.specs.declared.item_store.chain.Slot.TheVariants.{Vacant, Occupied}
use Rattle.iddqd_store.specs.declared.item_store.chain.Links.{Links}
use Rattle.iddqd_store.specs.Store.{Store, MovesLast, Updates, EndsOccupied, IsItemClone}
use Rattle.std.specs.List.{AllZip}
use Rattle.std.proofs.lemmas.List.Elements.{length_all_zip}
use Rattle.iddqd_store.specs.Slots.{no_slot, item_of, links_of, items_of, links_at, links_without, IsChained, SameSlots, IsSound, IsSlotClone}
use Rattle.iddqd_store.proofs.ChainLemmas.{without-same, without-other, IsChained-along, first_exists, same_links, head_links, apart}

module _ {T : Type 0} where
  -- the links of a slot that was read
  pub links_at-read : (es : List (Slot T)) (at : ℕ) (d e : Slot T) → at < length es → get_or es at d ≡ e → links_at es at ≡ links_of e
  links_at-read es at d e within read = get_or-map links_of es at d None within ∙ ap links_of read

  -- the links of the slot that was written, and of another
  pub links_at-set_same : (es : List (Slot T)) (at : ℕ) (e : Slot T) → at < length es → links_at (set es at e) at ≡ links_of e
  links_at-set_same es at e within =
      ap (λ gs. get_or gs at None) (map-set links_of es at e) ∙ get_or-set_same (map links_of es) at (links_of e) None (omega (arith, length-map es links_of))

  pub links_at-set_other : (es : List (Slot T)) (at : ℕ) (e : Slot T) (s : ℕ) → s ≢ at → links_at (set es at e) s ≡ links_at es s
  links_at-set_other es at e s other =
      ap (λ gs. get_or gs s None) (map-set links_of es at e) ∙ get_or-set_other (map links_of es) at s (links_of e) None other

  -- a write of other links keeps the items
  pub items_of-links : (es : List (Slot T)) (at : ℕ) (d : Slot T) (g h : Links) → at < length es → get_or es at d ≡ Vacant g → items_of (set es at (Vacant h)) ≡ items_of es
  items_of-links es at d g h within read =
      map-set item_of es at (Vacant h)
      ∙ ap (set (items_of es) at) (sym (get_or-map item_of es at d None within ∙ ap item_of read))
      ∙ set-get_or (items_of es) at None

  -- a vacant slot lies inside
  pub vacant_within : (es : List (Slot T)) (at : ℕ) → IsSome (links_at es at) → at < length es
  vacant_within es at some = elim (cases_lt at (length es)) [
    | inl p ↦ p
    | inr q ↦ absurd (let past = get_or_past (map links_of es) at None (omega (arith, length-map es links_of)) in let e = subst IsSome past some in cc)
  ]

  -- the links at a slot, after a write of its next or its previous
  pub links_at-next : (es : List (Slot T)) (at : ℕ) (d : Slot T) (g : Links) (p n v : ℕ) → at < length es → get_or es at d ≡ Vacant g → links_at es at ≡ Some (p, n) → links_at (set es at (Vacant (record g { next = v }))) at ≡ Some (p, v)
  links_at-next es at d g p n v within read was =
      links_at-set_same es at _ within ∙ ap (λ q. Some (q, v)) (same_links (links_at es at) g.previous g.next p n (links_at-read es at d _ within read) was).0

  pub links_at-previous : (es : List (Slot T)) (at : ℕ) (d : Slot T) (g : Links) (p n v : ℕ) → at < length es → get_or es at d ≡ Vacant g → links_at es at ≡ Some (p, n) → links_at (set es at (Vacant (record g { previous = v }))) at ≡ Some (v, n)
  links_at-previous es at d g p n v within read was =
      links_at-set_same es at _ within ∙ ap (λ m. Some (v, m)) (same_links (links_at es at) g.previous g.next p n (links_at-read es at d _ within read) was).1

  -- what `set_previous` and then `set_next` leave, list by list
  module _ (es es₁ es₂ : List (Slot T)) (first at p n : ℕ) (chained : IsChained (links_at es) first) (is : links_at es at ≡ Some (p, n)) (previous : n ≢ no_slot → (a m : ℕ) → links_at es n ≡ Some (a, m) → links_at es₁ n ≡ Some (p, m)) (others₁ : (s : ℕ) → (n ≢ no_slot → s ≢ n) → links_at es₁ s ≡ links_at es s) where
    -- the slot before is vacant still after `set_previous`
    pub previous_is_vacant : p ≢ no_slot → IsSome (links_at es₁ p)
    previous_is_vacant ne =
        let far = apart (links_at es) first at p n chained is in
        let b = far.2 ne in
        rw (others₁ p (λ ne' e. far.3 ne' ne (sym e)) ∙ b.1) refl

    -- the slot that leaves is vacant still after both
    pub still_vacant : ((s : ℕ) → (p ≢ no_slot → s ≢ p) → links_at es₂ s ≡ links_at es₁ s) → IsSome (links_at es₂ at)
    still_vacant others₂ =
        let far = apart (links_at es) first at p n chained is in
        rw (others₂ at (λ ne e. (far.2 ne).2 (sym e)) ∙ others₁ at (λ ne e. (far.1 ne).2 (sym e)) ∙ is) refl

  -- a slot holds an item or links
  pub vacant_no_item : (es : List (Slot T)) (at : ℕ) → IsSome (links_at es at) → get_or (items_of es) at None ≡ None
  vacant_no_item [] at some = refl
  vacant_no_item (Vacant g ∷ es) zero some = refl
  vacant_no_item (Occupied x ∷ es) zero some = absurd (cc)
  vacant_no_item (e ∷ es) (suc at) some = vacant_no_item es at some

  pub item_no_links : (es : List (Slot T)) (at : ℕ) → IsSome (get_or (items_of es) at None) → links_at es at ≡ None
  item_no_links [] at some = refl
  item_no_links (Vacant g ∷ es) zero some = absurd (cc)
  item_no_links (Occupied x ∷ es) zero some = refl
  item_no_links (e ∷ es) (suc at) some = item_no_links es at some

  pub no_links_item : (es : List (Slot T)) (at : ℕ) → at < length es → links_at es at ≡ None → IsSome (get_or (items_of es) at None)
  no_links_item [] at within none = absurd (omega arith)
  no_links_item (Vacant g ∷ es) zero within none = absurd (cc)
  no_links_item (Occupied x ∷ es) zero within none = refl
  no_links_item (e ∷ es) (suc at) within none = no_links_item es at (omega arith) none

  pub item_within : (es : List (Slot T)) (at : ℕ) → IsSome (get_or (items_of es) at None) → at < length es
  item_within [] at some = absurd (cc)
  item_within (e ∷ es) zero some = omega arith
  item_within (e ∷ es) (suc at) some = omega (arith, item_within es at some)

  -- with none vacant every slot holds an item
  pub full_count : (es : List (Slot T)) → ((s : ℕ) → s < length es → links_at es s ≡ None) → count_by is_some (items_of es) ≡ length es
  full_count [] none = refl
  full_count (Vacant g ∷ es) none = let z = none 0 (omega arith) in absurd (cc)
  full_count (Occupied x ∷ es) none =
      omega (arith, full_count es (λ s below. none (suc s) (omega arith)), sum_by-cons (λ o. cond (is_some o) 1 0) (Some x) (items_of es))

  -- where the chain has no first no slot is vacant
  pub no_links_at_none : (es : List (Slot T)) (s : ℕ) → IsChained (links_at es) no_slot → links_at es s ≡ None
  no_links_at_none es s chained = by_links (links_at es s) refl
    where
      by_links : (o : Option (ℕ × ℕ)) → links_at es s ≡ o → links_at es s ≡ None
      by_links None is = is
      by_links (Some g) is = absurd (first_exists (links_at es) no_slot s g.0 g.1 chained is refl)

  pub full_at_none : (es : List (Slot T)) → IsChained (links_at es) no_slot → count_by is_some (items_of es) ≡ length es
  full_at_none es chained = full_count es (λ s _. no_links_at_none es s chained)

  -- the first is vacant
  pub first_is_vacant : (es : List (Slot T)) (first : ℕ) → IsChained (links_at es) first → first ≢ no_slot → IsSome (links_at es first)
  first_is_vacant es first chained some = let h = chained.head some in rw h.1 refl

  -- the first of the chain has none before it
  pub first_links : (es : List (Slot T)) (first : ℕ) (d : Slot T) (links : Links) → IsChained (links_at es) first → first ≢ no_slot → get_or es first d ≡ Vacant links → links_at es first ≡ Some (no_slot, links.next)
  first_links es first d links chained some read =
      let within = vacant_within es first (first_is_vacant es first chained some) in
      head_links (links_at es) first links.previous links.next chained some (links_at-read es first d (Vacant links) within read)

  -- the links after a slot is filled, vacated, replaced
  pub links-filled : (es : List (Slot T)) (at : ℕ) (item : T) → at < length es → (s : ℕ) → links_at (set es at (Occupied item)) s ≡ links_without (links_at es) at s
  links-filled es at item within s = elim (cases_eq s at) [
    | inl e ↦ rw e (links_at-set_same es at (Occupied item) within ∙ sym (without-same (links_at es) at))
    | inr other ↦ links_at-set_other es at (Occupied item) s other ∙ sym (without-other (links_at es) at s other)
  ]

  pub links-vacated : (es : List (Slot T)) (at : ℕ) (g : Links) → links_at es at ≡ None → (s : ℕ) → links_without (links_at (set es at (Vacant g))) at s ≡ links_at es s
  links-vacated es at g none s = elim (cases_eq s at) [
    | inl e ↦ rw e (without-same (links_at (set es at (Vacant g))) at ∙ sym none)
    | inr other ↦ without-other (links_at (set es at (Vacant g))) at s other ∙ links_at-set_other es at (Vacant g) s other
  ]

  -- the head is vacant still, once another slot is vacated
  pub head_stays : (es : List (Slot T)) (first at : ℕ) (g : Links) → links_at es at ≡ None → IsChained (links_at es) first → first ≢ no_slot → IsSome (links_at (set es at (Vacant g)) first)
  head_stays es first at g none chained some =
      let vacant = first_is_vacant es first chained some in
      let other : first ≢ at = λ e. let here = ap (links_at es) e in absurd (cc) in
      rw (links_at-set_other es at (Vacant g) first other) vacant

  pub links-replaced : (es : List (Slot T)) (at : ℕ) (item : T) → at < length es → links_at es at ≡ None → (s : ℕ) → links_at (set es at (Occupied item)) s ≡ links_at es s
  links-replaced es at item within none s = elim (cases_eq s at) [
    | inl e ↦ rw e (links_at-set_same es at (Occupied item) within ∙ sym none)
    | inr other ↦ links_at-set_other es at (Occupied item) s other
  ]

  -- a slot before the last is as it was once the last is taken off
  front_other : {X : Type 0} (f : Slot T → Option X) (es : List (Slot T)) (n : ℕ) → length es ≡ suc n → (s : ℕ) → s ≢ n → get_or (map f (take n es)) s None ≡ get_or (map f es) s None
  front_other f es n long s other = elim (cases_lt s n) [
    | inl p ↦ ap (λ xs. get_or xs s None) (sym (take-map f n es)) ∙ get_or-take n (map f es) s None p
    | inr q ↦ get_or_past (map f (take n es)) s None (omega (arith, length-map (take n es) f, length-take n es)) ∙ sym (get_or_past (map f es) s None (omega (arith, length-map es f)))
  ]

  -- the last slot leaves
  pub links-front : (es : List (Slot T)) (n : ℕ) → length es ≡ suc n → (s : ℕ) → links_at (take n es) s ≡ links_without (links_at es) n s
  links-front es n long s = elim (cases_eq s n) [
    | inl e ↦ rw e (get_or_past (map links_of (take n es)) n None (omega (arith, length-map (take n es) links_of, length-take n es)) ∙ sym (without-same (links_at es) n))
    | inr other ↦ front_other links_of es n long s other ∙ sym (without-other (links_at es) n s other)
  ]

  pub items-front : (es : List (Slot T)) (n : ℕ) → length es ≡ suc n → (s : ℕ) → s ≢ n → get_or (items_of (take n es)) s None ≡ get_or (items_of es) s None
  items-front es n long s other = front_other item_of es n long s other

  pub items-front_last : (es : List (Slot T)) (n : ℕ) → length es ≡ suc n → get_or (items_of (take n es)) n None ≡ None
  items-front_last es n long = get_or_past (items_of (take n es)) n None (omega (arith, length-map (take n es) item_of, length-take n es))

  -- the count of one slot more
  sum_by-more : (os : List (Option T)) (n : ℕ) → n < length os → count_by is_some (take (n + 1) os) ≡ count_by is_some (take n os) + cond (is_some (get_or os n None)) 1 0
  sum_by-more os n below = ap (count_by is_some) (take_more os n None below) ∙ sum_by_push (λ o. cond (is_some o) 1 0) (take n os) (get_or os n None)

  -- the slots without a vacant one at the end
  pub SameSlots-front : (first : List (Option T)) (es : List (Slot T)) (n : ℕ) → length es ≡ suc n → get_or (items_of es) n None ≡ None → SameSlots first (items_of es) → SameSlots first (items_of (take n es))
  SameSlots-front first es n long vacant same = record {
    at = λ s. elim (cases_eq s n) [
      | inl e ↦ rw e (items-front_last es n long ∙ sym vacant ∙ same.at n)
      | inr other ↦ items-front es n long s other ∙ same.at s
    ];
    count = count-front es n long vacant ∙ same.count;
  }
    where
      count-front : (es : List (Slot T)) (n : ℕ) → length es ≡ suc n → get_or (items_of es) n None ≡ None → count_by is_some (items_of (take n es)) ≡ count_by is_some (items_of es)
      count-front es n long vacant =
          let more = sum_by-more (items_of es) n (omega (arith, length-map es item_of)) in
          let all : take (n + 1) (items_of es) ≡ items_of es = take_all (n + 1) (items_of es) (omega (arith, length-map es item_of)) in
          let none : cond (is_some (get_or (items_of es) n None)) 1 0 ≡ 0 = ap (λ o. cond (is_some o) 1 0) vacant in
          let front = ap (count_by is_some) (take-map item_of n es) in
          sym front ∙ sym (add-zero (count_by is_some (take n (items_of es)))) ∙ (λ i. count_by is_some (take n (items_of es)) + sym none i) ∙ sym more ∙ ap (count_by is_some) all

  -- each slot is occupied or vacant
  pub both_counts : (os : List (Option T)) → count_by is_some os + count_by is_none os ≡ length os
  both_counts [] = refl
  both_counts (None ∷ os) =
      omega (arith, both_counts os, sum_by-cons (λ o. cond (is_some o) 1 0) None os, sum_by-cons (λ o. cond (is_none o) 1 0) None os)
  both_counts (Some x ∷ os) =
      omega (arith, both_counts os, sum_by-cons (λ o. cond (is_some o) 1 0) (Some x) os, sum_by-cons (λ o. cond (is_none o) 1 0) (Some x) os)

  -- the count after a write
  pub count-set : (os : List (Option T)) (at : ℕ) (old o : Option T) → at < length os → get_or os at None ≡ old → count_by is_some (set os at o) + cond (is_some old) 1 0 ≡ count_by is_some os + cond (is_some o) 1 0
  count-set os at old o within read =
      subst (λ x. count_by is_some (set os at o) + cond (is_some x) 1 0 ≡ count_by is_some os + cond (is_some o) 1 0) read (sum_by-set (λ x. cond (is_some x) 1 0) os at o None within)

  -- a store without slots
  pub IsSound-empty : (limit : ℕ) → limit < 2 ^ 32 → IsSound {T = T} [] 0 no_slot limit
  IsSound-empty limit fits = record {
    counted = refl;
    within = omega arith;
    fits = fits;
    chained = record {
      rank = λ _. 0;
      top = 0;
      none = refl;
      head = λ some. absurd (some refl);
      start = λ s n e. absurd (cc);
      forth = λ s p n e _. absurd (cc);
      back = λ s p n e _. absurd (cc);
      below = λ s p n e. absurd (cc);
    };
  }

  -- a new slot at the end
  pub links-push : (es : List (Slot T)) (item : T) (s : ℕ) → links_at (es ++ Occupied item ∷ []) s ≡ links_at es s
  links-push [] item zero = refl
  links-push [] item (suc s) = refl
  links-push (e ∷ es) item zero = refl
  links-push (e ∷ es) item (suc s) = links-push es item s

  -- the invariant after an item at the end
  pub IsSound-push : (es : List (Slot T)) (len first limit : ℕ) (item : T) → IsSound es len first limit → first ≡ no_slot → len + 1 ≤ limit → IsSound (es ++ Occupied item ∷ []) (len + 1) first limit
  IsSound-push es len first limit item sound full room =
      let longer = length_push es (Occupied item) in
      let count = full_at_none es (subst (IsChained (links_at es)) full sound.chained) in
      record {
        counted = rw (map_push item_of es (Occupied item), sum_by_push (λ o. cond (is_some o) 1 0) (items_of es) (Some item)) (ap (λ n. n + 1) sound.counted);
        within = omega (arith, sound.counted);
        fits = sound.fits;
        chained = IsChained-along (links_at es) _ first (links-push es item) sound.chained;
      }

  -- with none vacant there are as many items as slots
  pub full_is : (es : List (Slot T)) (len first limit : ℕ) → IsSound es len first limit → first ≡ no_slot → len ≡ length es
  full_is es len first limit sound full = sound.counted ∙ full_at_none es (subst (IsChained (links_at es)) full sound.chained)

  -- where the chain has no first none is counted as vacant
  pub none_vacant : (es : List (Slot T)) (len first limit : ℕ) → IsSound es len first limit → first ≡ no_slot → count_by is_none (items_of es) ≡ 0
  none_vacant es len first limit sound full =
      omega (arith, full_is es len first limit sound full, sound.counted, both_counts (items_of es), length-map es item_of)

  -- `fill_first` and `vacate`
  pub IsSound-fill : (es ws : List (Slot T)) (len first first' at limit : ℕ) (item : T) → IsSound es len first limit → at < length es → get_or (items_of es) at None ≡ None → items_of ws ≡ set (items_of es) at (Some item) → IsChained (links_at ws) first' → IsSound ws (len + 1) first' limit
  IsSound-fill es ws len first first' at limit item sound within vacant items chained =
      let counted = count-set (items_of es) at None (Some item) (omega (arith, length-map es item_of)) vacant in
      let same : length ws ≡ length es = sym (length-map ws item_of) ∙ ap length items ∙ length-set (items_of es) at (Some item) ∙ length-map es item_of in
      record {
        counted = rw items (omega (arith, sound.counted));
        within = omega (arith, sound.within);
        fits = sound.fits;
        chained = chained;
      }

  -- how many slots are occupied and vacant, after `fill_first`
  pub count-filled : (os : List (Option T)) (at : ℕ) (item : T) → at < length os → get_or os at None ≡ None → count_by is_some (set os at (Some item)) ≡ count_by is_some os + 1
  count-filled os at item within vacant =
      omega (arith, count-set os at None (Some item) within vacant)

  pub vacant-filled : (os : List (Option T)) (at : ℕ) (item : T) → at < length os → get_or os at None ≡ None → count_by is_none (set os at (Some item)) + 1 ≡ count_by is_none os
  vacant-filled os at item within vacant =
      omega (arith, count-filled os at item within vacant, both_counts os, both_counts (set os at (Some item)), length-set os at (Some item))

  -- a vacant slot is counted
  pub some_vacant : (os : List (Option T)) (at : ℕ) → at < length os → get_or os at None ≡ None → 0 < count_by is_none os
  some_vacant os at within vacant =
      let one : 1 ≤ count_by is_none os = subst (λ o. cond (is_none o) 1 0 ≤ count_by is_none os) vacant (get_or-le-sum_by (λ o. cond (is_none o) 1 0) os at None within) in
      omega arith

  -- an item at the end is not counted as vacant
  pub vacant-pushed : (es : List (Slot T)) (item : T) → count_by is_none (items_of (es ++ Occupied item ∷ [])) ≡ count_by is_none (items_of es)
  vacant-pushed es item =
      rw (map_push item_of es (Occupied item), sum_by_push (λ o. cond (is_none o) 1 0) (items_of es) (Some item)) (omega arith)

  -- a slot behind the last is the next one only if none is vacant
  pub next_at_end : (es : List (Slot T)) (len first limit slot : ℕ) → IsSound es len first limit → (0 < count_by is_none (items_of es) → slot < length (items_of es)) → slot ≡ length es → first ≡ no_slot
  next_at_end es len first limit slot sound reuses end = elim (cases_eq first no_slot) [
    | inl e ↦ e
    | inr some ↦
        let vacant = first_is_vacant es first sound.chained some in
        let l = length-map es item_of in
        let counted = some_vacant (items_of es) first (omega (arith, vacant_within es first vacant)) (vacant_no_item es first vacant) in
        absurd (omega (arith, reuses counted))
  ]

  -- and another one is a vacant slot
  pub next_is_vacant : (es : List (Slot T)) (slot : ℕ) → get_or (items_of es) slot None ≡ None → slot < length es → IsSome (links_at es slot)
  next_is_vacant es slot free within = by_links (links_at es slot) refl
    where
      by_links : (o : Option (ℕ × ℕ)) → links_at es slot ≡ o → IsSome (links_at es slot)
      by_links (Some p) is = rw is refl
      by_links None is = let some = no_links_item es slot within is in absurd (cc)

  pub next_within : (es : List (Slot T)) (slot : ℕ) → (0 < count_by is_none (items_of es) → slot < length (items_of es)) → (count_by is_none (items_of es) ≡ 0 → slot ≡ length (items_of es)) → slot ≢ length es → slot < length es
  next_within es slot reuses next other = elim (cases_lt 0 (count_by is_none (items_of es))) [
    | inl some ↦ omega (arith, reuses some, length-map es item_of)
    | inr none ↦ absurd (other (next (omega arith) ∙ length-map es item_of))
  ]

  -- a written list of slots is an update of that slot
  pub Updates-set : (old new : Store T) (slot : ℕ) (item : Option T) → slot < length old.slots → new.slots ≡ set old.slots slot item → Updates old new slot item
  Updates-set old new slot item within written =
      record {
        changed = rw written (get_or-set_same old.slots slot item None within);
        others = λ other differs. rw written (get_or-set_other old.slots slot other item None differs);
      }

  some_of : (o : Option T) → IsSome o → (x : T) × (o ≡ Some x)
  some_of None some = absurd (cc)
  some_of (Some x) some = (x, refl)

  -- replacing an item keeps both counts and the invariant
  pub count-replaced : (es : List (Slot T)) (at : ℕ) (item : T) → IsSome (get_or (items_of es) at None) → count_by is_some (items_of (set es at (Occupied item))) ≡ count_by is_some (items_of es)
  count-replaced es at item occupied =
      let old = some_of (get_or (items_of es) at None) occupied in
      let counted = count-set (items_of es) at (Some old.0) (Some item) (omega (arith, length-map es item_of, item_within es at occupied)) old.1 in
      rw (map-set item_of es at (Occupied item)) (omega arith)

  pub vacant-replaced : (es : List (Slot T)) (at : ℕ) (item : T) → IsSome (get_or (items_of es) at None) → count_by is_none (items_of (set es at (Occupied item))) ≡ count_by is_none (items_of es)
  vacant-replaced es at item occupied =
      let es' = set es at (Occupied item) in
      omega (arith, count-replaced es at item occupied, both_counts (items_of es), both_counts (items_of es'), length-map es item_of, length-map es' item_of, length-set es at (Occupied item))

  pub IsSound-replace : (es : List (Slot T)) (len first limit at : ℕ) (item : T) → IsSound es len first limit → IsSome (get_or (items_of es) at None) → IsSound (set es at (Occupied item)) len first limit
  IsSound-replace es len first limit at item sound occupied = record {
    counted = sound.counted ∙ sym (count-replaced es at item occupied);
    within = rw length-set sound.within;
    fits = sound.fits;
    chained = IsChained-along (links_at es) (links_at (set es at (Occupied item))) first (links-replaced es at item (item_within es at occupied) (item_no_links es at occupied)) sound.chained;
  }

  -- where the last slot is not vacant it is occupied
  pub ends_occupied : (es : List (Slot T)) → (0 < length es → links_at es (length es - 1) ≡ None) → EndsOccupied (items_of es)
  ends_occupied es none some =
      let long = length-map es item_of in
      rw long (no_links_item es (length es - 1) (omega (arith, some)) (none (omega (arith, some))))

  -- with as many items, fewer slots leave fewer vacant
  pub fewer_vacant : (es ws : List (Slot T)) → count_by is_some (items_of ws) ≡ count_by is_some (items_of es) → length ws < length es → count_by is_none (items_of ws) < count_by is_none (items_of es)
  fewer_vacant es ws same shorter =
      omega (arith, both_counts (items_of es), both_counts (items_of ws), length-map es item_of, length-map ws item_of)

  -- a move between two changes that keep what each slot holds
  pub MovesLast-along : (a b c d : List (Option T)) (last hole : ℕ) → SameSlots a b → MovesLast b c last hole → SameSlots c d → MovesLast a d last hole
  MovesLast-along a b c d last hole before moves after = record {
    lower = moves.lower;
    was_vacant = sym (before.at hole) ∙ moves.was_vacant;
    was_occupied = subst IsSome (before.at last) moves.was_occupied;
    greatest = λ other above. sym (before.at other) ∙ moves.greatest other above;
    moved = after.at hole ∙ moves.moved ∙ before.at last;
    left = after.at last ∙ moves.left;
    others = λ other x y. after.at other ∙ moves.others other x y ∙ before.at other;
  }

  -- what taking the last slot, which has an item, and `fill_first` leave
  module _ (es ws : List (Slot T)) (n hole : ℕ) (item : T) (long : length es ≡ suc n) (held : get_or (items_of es) n None ≡ Some item) (links : IsSome (links_at es hole)) (filled : items_of ws ≡ set (items_of (take n es)) hole (Some item)) where
    pub hole_below : hole < n
    hole_below = elim (cases_eq hole n) [
      | inl e ↦ let vacant = vacant_no_item es hole links in let is = ap (λ k. get_or (items_of es) k None) e in absurd (cc)
      | inr ne ↦ omega (arith, vacant_within es hole links)
    ]

    inside : hole < length (items_of (take n es))
    inside = omega (arith, hole_below, length-map (take n es) item_of, length-take n es)

    -- the move, and the count after it
    pub MovesLast-fill : MovesLast (items_of es) (items_of ws) n hole
    MovesLast-fill = record {
      lower = hole_below;
      was_vacant = vacant_no_item es hole links;
      was_occupied = rw held refl;
      greatest = λ other above. get_or_past (items_of es) other None (omega (arith, length-map es item_of));
      moved = rw (filled, held) (get_or-set_same (items_of (take n es)) hole (Some item) None inside);
      left = rw filled (get_or_past (set (items_of (take n es)) hole (Some item)) n None (omega (arith, length-set (items_of (take n es)) hole (Some item), length-map (take n es) item_of, length-take n es)));
      others = λ other x y. rw filled (get_or-set_other (items_of (take n es)) hole other (Some item) None x ∙ items-front es n long other y);
    }

    pub count-moved : count_by is_some (items_of ws) ≡ count_by is_some (items_of es)
    count-moved =
        let vacant = items-front es n long hole (λ e. omega (arith, hole_below)) ∙ vacant_no_item es hole links in
        let more = sum_by-more (items_of es) n (omega (arith, length-map es item_of)) in
        let all : take (n + 1) (items_of es) ≡ items_of es = take_all (n + 1) (items_of es) (omega (arith, length-map es item_of)) in
        let front = take-map item_of n es in
        ap (count_by is_some) filled ∙ count-filled (items_of (take n es)) hole item inside vacant
        ∙ (λ i. count_by is_some (sym front i) + cond (is_some (sym held i)) 1 0) ∙ sym more ∙ ap (count_by is_some) all

  -- the chain without the last slot, where it has an item
  pub IsChained-front : (es : List (Slot T)) (n first : ℕ) → length es ≡ suc n → links_at es n ≡ None → IsChained (links_at es) first → IsChained (links_at (take n es)) first
  IsChained-front es n first long none chained =
      IsChained-along (links_at es) (links_at (take n es)) first
      (λ s. links-front es n long s ∙ elim (cases_eq s n) [ inl e ↦ rw e (without-same (links_at es) n ∙ sym none) | inr other ↦ without-other (links_at es) n s other ])
      chained

module _ {T : Type 0} (is_clone : T → T → Type 0) where
  -- clones of slots are clones of their items, with the same links and counts
  pub items_are_clones : (es copies : List (Slot T)) → AllZip (IsSlotClone is_clone) es copies → AllZip (IsItemClone is_clone) (items_of es) (items_of copies)
  items_are_clones [] [] all = tt
  items_are_clones [] (c ∷ copies) all = absurd all
  items_are_clones (e ∷ es) [] all = absurd all
  items_are_clones (Vacant g ∷ es) (c ∷ copies) all = (rw all.0, items_are_clones es copies all.1)
  items_are_clones (Occupied x ∷ es) (c ∷ copies) all = (rw all.0.1 all.0.2, items_are_clones es copies all.1)

  links_of_clones : (es copies : List (Slot T)) → AllZip (IsSlotClone is_clone) es copies → map links_of copies ≡ map links_of es
  links_of_clones [] [] all = refl
  links_of_clones [] (c ∷ copies) all = absurd all
  links_of_clones (e ∷ es) [] all = absurd all
  links_of_clones (Vacant g ∷ es) (c ∷ copies) all = (λ i. links_of (all.0 i) ∷ links_of_clones es copies all.1 i)
  links_of_clones (Occupied x ∷ es) (c ∷ copies) all = (λ i. links_of (all.0.1 i) ∷ links_of_clones es copies all.1 i)

  pub count_of_clones : (es copies : List (Slot T)) → AllZip (IsSlotClone is_clone) es copies → count_by is_some (items_of copies) ≡ count_by is_some (items_of es)
  count_of_clones [] [] all = refl
  count_of_clones [] (c ∷ copies) all = absurd all
  count_of_clones (e ∷ es) [] all = absurd all
  count_of_clones (Vacant g ∷ es) (c ∷ copies) all =
      let one : Option T → ℕ = λ o. cond (is_some o) 1 0 in
      rw all.0 (omega (arith, count_of_clones es copies all.1, sum_by-cons one None (items_of es), sum_by-cons one None (items_of copies)))
  count_of_clones (Occupied x ∷ es) (c ∷ copies) all =
      let one : Option T → ℕ = λ o. cond (is_some o) 1 0 in
      rw all.0.1 (omega (arith, count_of_clones es copies all.1, sum_by-cons one (Some x) (items_of es), sum_by-cons one (Some all.0.0) (items_of copies)))

  pub vacant_of_clones : (es copies : List (Slot T)) → AllZip (IsSlotClone is_clone) es copies → count_by is_none (items_of copies) ≡ count_by is_none (items_of es)
  vacant_of_clones es copies all =
      omega (arith, count_of_clones es copies all, both_counts (items_of es), both_counts (items_of copies), length-map es item_of, length-map copies item_of, length_all_zip (IsSlotClone is_clone) es copies all)

  -- a clone keeps the invariant
  pub IsSound-clone : (es copies : List (Slot T)) (len first limit : ℕ) → AllZip (IsSlotClone is_clone) es copies → IsSound es len first limit → IsSound copies len first limit
  IsSound-clone es copies len first limit all sound = record {
    counted = sound.counted ∙ sym (count_of_clones es copies all);
    within = omega (arith, sound.within, length_all_zip (IsSlotClone is_clone) es copies all);
    fits = sound.fits;
    chained = subst (λ gs. IsChained (λ s. get_or gs s None) first) (sym (links_of_clones es copies all)) sound.chained;
  }
