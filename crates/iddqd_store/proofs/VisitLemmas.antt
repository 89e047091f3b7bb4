-- A walk that retains, as it goes over a list: the items before its place stay, those from there on are still to be asked about.
--     visited_kept, visited_dropped      one visit more, of an item that stays or goes
--     IsAsked      a filter has been asked about the items before the place
--     asked_kept, asked_dropped, asked_end      one question more, and none more
--     written_then_removed      an item that is written and taken out
--     ascends_remove      what is left without one item ascends
use Rattle.std.proofs.Common.{◌≡◌, ℕ, zero, suc, ◌≤◌, Bool, true, false, List, [], ◌∷◌, ◌++◌, length, map, take, drop, set, Some, refl, sym, ap, ◌∙◌, arith, add-one, ◌+◌, subst, Ordering, Less}
use Rattle.std.specs.List.{AllByRecursion, remove, slice_get}
use Rattle.std.specs.List.Retain.{IsFiltered}
use Rattle.std.specs.List.Sorted.{IsStrictlySortedBy}
use Rattle.iddqd_store.specs.Contents.{Ascends}
use Rattle.iddqd_store.specs.Visiting.{kept_by, visitor_after}

module _ {T : Type 0} where
  pub written_then_removed : (items : List T) (at : ℕ) (y : T) → remove (set items at y) at ≡ remove items at
  written_then_removed [] at y = refl
  written_then_removed (x ∷ xs) zero y = refl
  written_then_removed (x ∷ xs) (suc at) y = ap (λ ys. x ∷ ys) (written_then_removed xs at y)

module _ {V T : Type 0} (visits : V → T → V × T × Bool) (v w : V) (x y : T) where
  kept : (items : List T) (at : ℕ) → slice_get items at ≡ Some x → visits v x ≡ (w, y, true) → take at items ++ kept_by visits v (drop at items) ≡ take (suc at) (set items at y) ++ kept_by visits w (drop (suc at) (set items at y))
  kept [] at there e = cc
  kept (z ∷ items) zero there e = let same : z ≡ x = cc in rw (same, e) refl
  kept (z ∷ items) (suc at) there e = ap (λ ys. z ∷ ys) (kept items at there e)

  pub visited_kept : (items : List T) (at : ℕ) → slice_get items at ≡ Some x → visits v x ≡ (w, y, true) → take at items ++ kept_by visits v (drop at items) ≡ take (at + 1) (set items at y) ++ kept_by visits w (drop (at + 1) (set items at y))
  visited_kept items at there e = subst (λ n. take at items ++ kept_by visits v (drop at items) ≡ take n (set items at y) ++ kept_by visits w (drop n (set items at y))) (sym (add-one at)) (kept items at there e)

  after : (items : List T) (at : ℕ) (b : Bool) → slice_get items at ≡ Some x → visits v x ≡ (w, y, b) → visitor_after visits v (drop at items) ≡ visitor_after visits w (drop (suc at) (set items at y))
  after [] at b there e = cc
  after (z ∷ items) zero b there e = let same : z ≡ x = cc in rw (same, e) refl
  after (z ∷ items) (suc at) b there e = after items at b there e

  pub visitor_kept : (items : List T) (at : ℕ) (b : Bool) → slice_get items at ≡ Some x → visits v x ≡ (w, y, b) → visitor_after visits v (drop at items) ≡ visitor_after visits w (drop (at + 1) (set items at y))
  visitor_kept items at b there e = subst (λ n. visitor_after visits v (drop at items) ≡ visitor_after visits w (drop n (set items at y))) (sym (add-one at)) (after items at b there e)

  pub visited_dropped : (items : List T) (at : ℕ) → slice_get items at ≡ Some x → visits v x ≡ (w, y, false) → take at items ++ kept_by visits v (drop at items) ≡ take at (remove items at) ++ kept_by visits w (drop at (remove items at))
  visited_dropped [] at there e = cc
  visited_dropped (z ∷ items) zero there e = let same : z ≡ x = cc in rw (same, e) refl
  visited_dropped (z ∷ items) (suc at) there e = ap (λ ys. z ∷ ys) (visited_dropped items at there e)

  pub visitor_dropped : (items : List T) (at : ℕ) (b : Bool) → slice_get items at ≡ Some x → visits v x ≡ (w, y, b) → visitor_after visits v (drop at items) ≡ visitor_after visits w (drop at (remove items at))
  visitor_dropped [] at b there e = cc
  visitor_dropped (z ∷ items) zero b there e = let same : z ≡ x = cc in rw (same, e) refl
  visitor_dropped (z ∷ items) (suc at) b there e = visitor_dropped items at b there e

module _ {T K : Type 0} (key : T → K) where
  all_remove : (P : K → Type 0) (items : List T) (at : ℕ) → AllByRecursion P (map key items) → AllByRecursion P (map key (remove items at))
  all_remove P [] zero a = tt
  all_remove P [] (suc at) a = tt
  all_remove P (x ∷ xs) zero a = a.1
  all_remove P (x ∷ xs) (suc at) a = (a.0, all_remove P xs at a.1)

  pub ascends_remove : (cmp : K → K → Ordering) (items : List T) (at : ℕ) → Ascends key cmp items → Ascends key cmp (remove items at)
  unfolding IsStrictlySortedBy
  ascends_remove cmp [] zero s = tt
  ascends_remove cmp [] (suc at) s = tt
  ascends_remove cmp (x ∷ xs) zero s = s.1
  ascends_remove cmp (x ∷ xs) (suc at) s = (all_remove (λ k. cmp (key x) k ≡ Less) xs at s.0, ascends_remove cmp xs at s.1)

module _ {T : Type 0} where
  cut_at : (items : List T) (at : ℕ) (x : T) → slice_get items at ≡ Some x → x ∷ drop (suc at) items ≡ drop at items
  cut_at [] at x e = cc
  cut_at (y ∷ items) zero x e = let same : y ≡ x = cc in ap (λ z. z ∷ items) (sym same)
  cut_at (y ∷ items) (suc at) x e = cut_at items at x e

  taken_at : (items : List T) (at : ℕ) (x : T) (ys : List T) → slice_get items at ≡ Some x → take at items ++ x ∷ ys ≡ take (suc at) items ++ ys
  taken_at [] at x ys e = cc
  taken_at (y ∷ items) zero x ys e = let same : y ≡ x = cc in ap (λ z. z ∷ ys) (sym same)
  taken_at (y ∷ items) (suc at) x ys e = ap (λ zs. y ∷ zs) (taken_at items at x ys e)

  drop-removed : (items : List T) (at : ℕ) → drop at (remove items at) ≡ drop (suc at) items
  drop-removed [] zero = refl
  drop-removed [] (suc at) = refl
  drop-removed (y ∷ items) zero = refl
  drop-removed (y ∷ items) (suc at) = drop-removed items at

  take-removed : (items : List T) (at : ℕ) → take at (remove items at) ≡ take at items
  take-removed [] zero = refl
  take-removed [] (suc at) = refl
  take-removed (y ∷ items) zero = refl
  take-removed (y ∷ items) (suc at) = ap (λ zs. y ∷ zs) (take-removed items at)

  none_behind : (items : List T) (at : ℕ) → length items ≤ at → drop at items ≡ []
  none_behind [] zero h = refl
  none_behind [] (suc at) h = refl
  none_behind (y ∷ items) zero h = absurd (omega arith)
  none_behind (y ∷ items) (suc at) h = none_behind items at (omega arith)

  all_before : (items : List T) (at : ℕ) → length items ≤ at → take at items ++ [] ≡ items
  all_before [] zero h = refl
  all_before [] (suc at) h = refl
  all_before (y ∷ items) zero h = absurd (omega arith)
  all_before (y ∷ items) (suc at) h = ap (λ zs. y ∷ zs) (all_before items at (omega arith))

module _ {T P : Type 0} (R : P → T → Bool → P → Type 0) (first : P) (old : List T) where
  -- whatever those from the place on are filtered to, the old items are filtered to that behind what stayed
  abbrev pub IsAsked : P → List T → ℕ → Type 0
  IsAsked f items at = (ys : List T) → IsFiltered R f (drop at items) ys → IsFiltered R first old (take at items ++ ys)

  pub asked_kept : (f g : P) (items : List T) (at : ℕ) (x : T) → slice_get items at ≡ Some x → R f x true g → IsAsked f items at → IsAsked g items (at + 1)
  asked_kept f g items at x there called asked = subst (IsAsked g items) (sym (add-one at)) λ ys rest.
      subst (IsFiltered R first old) (taken_at items at x ys there)
      (asked (x ∷ ys) (subst (λ zs. IsFiltered R f zs (x ∷ ys)) (cut_at items at x there) (true ∷ rest.0, rest.1, ap suc rest.2, (g, called, rest.3), ap (λ zs. x ∷ zs) rest.4)))

  pub asked_dropped : (f g : P) (items : List T) (at : ℕ) (x : T) → slice_get items at ≡ Some x → R f x false g → IsAsked f items at → IsAsked g (remove items at) at
  asked_dropped f g items at x there called asked ys rest =
      let behind = rw (drop-removed items at) at rest in
      subst (λ zs. IsFiltered R first old (zs ++ ys)) (sym (take-removed items at))
      (asked ys (subst (λ zs. IsFiltered R f zs ys) (cut_at items at x there) (false ∷ behind.0, behind.1, ap suc behind.2, (g, called, behind.3), behind.4)))

  pub asked_end : (f : P) (items : List T) (at : ℕ) → length items ≤ at → IsAsked f items at → IsFiltered R first old items
  asked_end f items at h asked =
      subst (IsFiltered R first old) (all_before items at h) (asked [] (subst (λ zs. IsFiltered R f zs []) (sym (none_behind items at h)) ([], f, refl, refl, refl)))

module _ {V T : Type 0} (visits : V → T → V × T × Bool) (v : V) where
  -- at the end nothing is to come
  pub visited_end : (items : List T) (at : ℕ) → length items ≤ at → take at items ++ kept_by visits v (drop at items) ≡ items
  visited_end items at h = ap (λ zs. take at items ++ kept_by visits v zs) (none_behind items at h) ∙ all_before items at h

  pub visitor_end : (items : List T) (at : ℕ) → length items ≤ at → visitor_after visits v (drop at items) ≡ v
  visitor_end items at h = ap (visitor_after visits v) (none_behind items at h)
