-- Lists in cells.
use Rattle.std.proofs.Common.{◌≡◌, ℕ, suc, zero, ◌+◌, ◌-◌, ◌<◌, ◌≤◌, List, [], ◌∷◌, ◌++◌, length, map, take, drop, set, get_or, replicate, refl, ap, sym, ◌∙◌, Option, Some, None, arith, append_assoc, length-append, length-drop}
use Rattle.std.specs.List.{insert, remove}
use Rattle.std.proofs.lemmas.List.{append-nil, length-map, length-replicate, length-take-le, map-append, take-map, drop-map, take-append-le, drop-append-le, replicate-append-replicate, set_at, replicate_more, take_at, drop_at, get_or-map, get_or_append_left, get_or-set_same, take-set, drop-set-lt, drop-drop, take_rest, take-replicate, drop-replicate, drop_all}
use Rattle.std.proofs.lemmas.List.Edits.{insert-append_left, remove-append_left, length-insert, length-remove}
use borrow.Rule.Slice.PartMut.{put_mid}
use Rattle.iddqd_ord_index.specs.Cells.{items_present, cells_of, IsPacked}

module _ {T : Type 0} where
  abbrev none : Option T
  none = None

  pub held_some : (xs : List T) (os : List (Option T)) → items_present (map Some xs ++ os) ≡ xs ++ items_present os
  held_some [] os = refl
  held_some (x ∷ xs) os = ap (λ ys. x ∷ ys) (held_some xs os)

  pub held_none : (n : ℕ) → items_present (replicate n none) ≡ []
  held_none zero = refl
  held_none (suc n) = held_none n

  pub items_present-cells_of : (xs : List T) → items_present (cells_of xs) ≡ xs
  items_present-cells_of xs = held_some xs _ ∙ (ap (λ ys. xs ++ ys) (held_none (12 - length xs)) ∙ append-nil xs)

  -- cells that are the cells of a list hold that list
  pub packed_is : (os : List (Option T)) (xs : List T) → os ≡ cells_of xs → length xs ≤ 12 → IsPacked os
  packed_is os xs e le = rw e (record { cells = ap cells_of (sym (items_present-cells_of xs)); fits = rw items_present-cells_of le })

  pub held_is : (os : List (Option T)) (xs : List T) → os ≡ cells_of xs → items_present os ≡ xs
  held_is os xs e = rw e (items_present-cells_of xs)

  pub map-insert : {B : Type 0} (f : T → B) (xs : List T) (i : ℕ) (x : T) → map f (insert xs i x) ≡ insert (map f xs) i (f x)
  map-insert f xs i x = map-append f (take i xs) _ ∙ (rw (take-map, drop-map) refl)

  pub map-remove : {B : Type 0} (f : T → B) (xs : List T) (i : ℕ) → map f (remove xs i) ≡ remove (map f xs) i
  map-remove f xs i = map-append f (take i xs) _ ∙ (rw (take-map, drop-map) refl)

  -- all cells but the last
  abbrev fronts : List T → List (Option T)
  fronts xs = map Some xs ++ replicate (11 - length xs) none

  length_fronts : (xs : List T) → length xs < 12 → length (fronts xs) ≡ 11
  length_fronts xs lt = length-append (map Some xs) _ ∙ (rw (length-map xs Some, length-replicate (11 - length xs) none) (omega arith))

  cells_of-fronts : (xs : List T) → length xs < 12 → cells_of xs ≡ fronts xs ++ none ∷ []
  cells_of-fronts xs lt =
      let e : 12 - length xs ≡ (11 - length xs) + 1 = omega arith in
      rw (e, ← replicate_more (11 - length xs) none) (sym (append_assoc (map Some xs) _ _))

  pub put_in : (os new : List (Option T)) (xs : List T) (i : ℕ) (x : T) → os ≡ cells_of xs → length xs < 12 → i ≤ length xs
      → ((front : List (Option T)) (last : Option T) → set os 11 (Some x) ≡ front ++ last ∷ [] → new ≡ insert front i last)
      → new ≡ cells_of (insert xs i x)
  put_in os new xs i x e lt le h =
      let n : length (map Some xs) ≡ length xs = length-map xs Some in
      let w = set_at (fronts xs) none [] (Some x) 11 (length_fronts xs lt) in
      let a = h (fronts xs) (Some x) (rw (e, cells_of-fronts xs lt) w) in
      let b = insert-append_left (map Some xs) (replicate (11 - length xs) none) i (Some x) (omega arith) in
      let m = length-insert xs i x le in
      let k : 12 - length (insert xs i x) ≡ 11 - length xs = omega arith in
      a ∙ (b ∙ rw (k, map-insert Some xs i x) refl)

  pub take_out : (os new : List (Option T)) (xs : List T) (i : ℕ) → os ≡ cells_of xs → i < length xs → length xs ≤ 12
      → new ≡ remove os i ++ none ∷ []
      → new ≡ cells_of (remove xs i)
  take_out os new xs i e lt le h =
      let n : length (map Some xs) ≡ length xs = length-map xs Some in
      let b = remove-append_left (map Some xs) (replicate (12 - length xs) none) i (omega arith) in
      let m = length-remove xs i lt in
      let k : 12 - length (remove xs i) ≡ (12 - length xs) + 1 = omega arith in
      h ∙ (ap (λ l. remove l i ++ none ∷ []) e
      ∙ (ap (λ l. l ++ none ∷ []) b
      ∙ (append_assoc (remove (map Some xs) i) _ _
      ∙ (ap (λ l. remove (map Some xs) i ++ l) (replicate_more (12 - length xs) none)
      ∙ (ap (λ l. l ++ replicate ((12 - length xs) + 1) none) (sym (map-remove Some xs i))
      ∙ ap (λ j. map Some (remove xs i) ++ replicate j none) (sym k))))))

  pub cut_lower : (os : List (Option T)) (xs : List T) (at : ℕ) → os ≡ cells_of xs → at ≤ length xs → length xs ≤ 12
      → take at os ++ replicate (12 - at) none ≡ cells_of (take at xs)
  cut_lower os xs at e le lt =
      let n : length (map Some xs) ≡ length xs = length-map xs Some in
      let m = length-take-le at xs le in
      rw (e, take-append-le at (map Some xs) (replicate (12 - length xs) none) (omega arith), take-map Some at xs, m) refl

  pub cut_upper : (os : List (Option T)) (xs : List T) (at : ℕ) → os ≡ cells_of xs → at ≤ length xs → length xs ≤ 12
      → drop at os ++ replicate at none ≡ cells_of (drop at xs)
  cut_upper os xs at e le lt =
      let n : length (map Some xs) ≡ length xs = length-map xs Some in
      let m = length-drop at xs in
      let k : (12 - length xs) + at ≡ 12 - length (drop at xs) = omega arith in
      rw (e, drop-append-le at (map Some xs) (replicate (12 - length xs) none) (omega arith), drop-map Some at xs, append_assoc, replicate-append-replicate, k) refl

  pub join_lower : (os us : List (Option T)) (xs ys : List T) → os ≡ cells_of xs → us ≡ cells_of ys → length xs + length ys ≤ 12
      → take (length xs) os ++ (take (length ys) us ++ drop (length ys) (drop (length xs) os)) ≡ cells_of (xs ++ ys)
  join_lower os us xs ys e f lt =
      let n : length (map Some xs) ≡ length xs = length-map xs Some in
      let m : length (map Some ys) ≡ length ys = length-map ys Some in
      let l = length-append xs ys in
      let a = take_at (map Some xs) (replicate (12 - length xs) none) (length xs) n in
      let b = take_at (map Some ys) (replicate (12 - length ys) none) (length ys) m in
      let d = drop_at (map Some xs) (replicate (12 - length xs) none) (length xs) n in
      let r = drop-replicate (length ys) (12 - length xs) none in
      let k : (12 - length xs) - length ys ≡ 12 - length (xs ++ ys) = omega arith in
      rw (e, f, a, b, d, r, k, ← append_assoc, ← map-append Some xs ys) refl

  pub join_upper : (os us : List (Option T)) (xs ys : List T) → os ≡ cells_of xs → us ≡ cells_of ys → length xs + length ys ≤ 12
      → take (length ys) (drop (length xs) os) ++ drop (length ys) us ≡ cells_of []
  join_upper os us xs ys e f lt =
      let n : length (map Some xs) ≡ length xs = length-map xs Some in
      let m : length (map Some ys) ≡ length ys = length-map ys Some in
      let b = drop_at (map Some ys) (replicate (12 - length ys) none) (length ys) m in
      let d = drop_at (map Some xs) (replicate (12 - length xs) none) (length xs) n in
      let r = take-replicate (length ys) (12 - length xs) none (omega arith) in
      let k : length ys + (12 - length ys) ≡ 12 = omega arith in
      rw (e, f, b, d, r, replicate-append-replicate, k) refl

  pub length-cells_of : (xs : List T) → length xs ≤ 12 → length (cells_of xs) ≡ 12
  length-cells_of xs le = length-append (map Some xs) _ ∙ (rw (length-map xs Some, length-replicate (12 - length xs) none) (omega arith))

  empty_cells : (us : List (Option T)) → IsPacked us → items_present us ≡ [] → us ≡ replicate 12 none
  empty_cells us p z = p.cells ∙ ap cells_of z

  -- the cells behind a place, without the empty ones
  pub tail_cells : (os : List (Option T)) (i n : ℕ) → IsPacked os → n ≡ length (items_present os) → i ≤ n → take (n - i) (drop i os) ≡ map Some (drop i (items_present os))
  tail_cells os i n p e le =
      let xs = items_present os in
      let m : length (map Some xs) ≡ length xs = length-map xs Some in
      let d : length (drop i (map Some xs)) ≡ n - i = length-drop i (map Some xs) ∙ omega arith in
      rw (ap (λ l. take (n - i) (drop i l)) p.cells, drop-append-le i (map Some xs) (replicate (12 - length xs) none) (omega arith), take_at (drop i (map Some xs)) (replicate (12 - length xs) none) (n - i) d) (drop-map Some i xs)

  pub held_all : (xs : List T) → items_present (map Some xs) ≡ xs
  held_all xs = ap items_present (sym (append-nil (map Some xs))) ∙ (held_some xs [] ∙ append-nil xs)

  -- what `move_tail` leaves
  pub moved_lower : (os us mid : List (Option T)) (at : ℕ) → IsPacked os → IsPacked us → items_present us ≡ [] → at ≤ length (items_present os)
      → mid ≡ take (12 - at) us → put_mid at (length os - at) os mid ≡ cells_of (take at (items_present os))
  moved_lower os us mid at p q z le m =
      let n : length os ≡ 12 = ap length p.cells ∙ length-cells_of (items_present os) p.fits in
      let d : drop (length os - at) (drop at os) ≡ [] = drop-drop (length os - at) at os ∙ drop_all _ os (omega (arith, p.fits)) in
      let r = take-replicate (12 - at) 12 none (omega arith) in
      let k : mid ≡ replicate (12 - at) none = m ∙ (ap (λ l. take (12 - at) l) (empty_cells us q z) ∙ r) in
      ap (λ l. take at os ++ (mid ++ l)) d ∙ (ap (λ l. take at os ++ l) (append-nil mid ∙ k) ∙ cut_lower os (items_present os) at p.cells le p.fits)

  pub moved_upper : (os us mid : List (Option T)) (at : ℕ) → IsPacked os → IsPacked us → items_present us ≡ [] → at ≤ length (items_present os)
      → mid ≡ take (length os - at) (drop at os) → mid ++ drop (12 - at) us ≡ cells_of (drop at (items_present os))
  moved_upper os us mid at p q z le m =
      let t : mid ≡ drop at os = m ∙ take_rest os at in
      let k : 12 - (12 - at) ≡ at = omega (arith, p.fits) in
      let r : drop (12 - at) us ≡ replicate at none = ap (λ l. drop (12 - at) l) (empty_cells us q z) ∙ (drop-replicate (12 - at) 12 none ∙ ap (λ j. replicate j none) k) in
      ap (λ l. l ++ drop (12 - at) us) t ∙ (ap (λ l. drop at os ++ l) r ∙ cut_upper os (items_present os) at p.cells le p.fits)

  -- what `append` leaves
  pub joined_lower : (os us mid : List (Option T)) (len more : ℕ) → IsPacked os → IsPacked us → len ≡ length (items_present os) → more ≡ length (items_present us) → len + more ≤ 12
      → mid ≡ take more us → put_mid len ((len + more) - len) os mid ≡ cells_of (items_present os ++ items_present us)
  joined_lower os us mid len more p q a b le m =
      let k : (len + more) - len ≡ more = omega arith in
      rw (k, m, a, b) (join_lower os us (items_present os) (items_present us) p.cells q.cells (omega arith))

  pub joined_upper : (os us mid : List (Option T)) (len more : ℕ) → IsPacked os → IsPacked us → len ≡ length (items_present os) → more ≡ length (items_present us) → len + more ≤ 12
      → mid ≡ take ((len + more) - len) (drop len os) → mid ++ drop more us ≡ cells_of []
  joined_upper os us mid len more p q a b le m =
      let k : (len + more) - len ≡ more = omega arith in
      rw (m, k, a, b) (join_upper os us (items_present os) (items_present us) p.cells q.cells (omega arith))

  -- what `remove` leaves
  pub removed : (os new : List (Option T)) (o : Option T) (i : ℕ) → IsPacked os → i < length (items_present os) → o ≡ none
      → ((d : Option T) → new ≡ remove (set os i o) i ++ get_or (set os i o) i d ∷ [])
      → new ≡ cells_of (remove (items_present os) i)
  removed os new o i p lt z h =
      let n : length os ≡ 12 = ap length p.cells ∙ length-cells_of (items_present os) p.fits in
      let g = get_or-set_same os i o none (omega (arith, p.fits)) in
      let t = take-set os i o in
      let d = drop-set-lt (suc i) os i o (omega arith) in
      take_out os new (items_present os) i p.cells lt p.fits
      (h none ∙ (ap (λ l. (l ++ drop (suc i) (set os i o)) ++ get_or (set os i o) i none ∷ []) t ∙ (ap (λ l. (take i os ++ l) ++ get_or (set os i o) i none ∷ []) d ∙ ap (λ x. remove os i ++ x ∷ []) (g ∙ z))))

  -- a cell in front holds the item there
  pub cell_is : (os : List (Option T)) (i : ℕ) (o : Option T) (d : T) → IsPacked os → i < length (items_present os) → get_or os i o ≡ Some (get_or (items_present os) i d)
  cell_is os i o d p lt =
      let n : length (map Some (items_present os)) ≡ length (items_present os) = length-map (items_present os) Some in
      ap (λ l. get_or l i o) p.cells ∙ (get_or_append_left (map Some (items_present os)) _ o i (omega arith) ∙ get_or-map Some (items_present os) i d o lt)

  pub cell_at : (os : List (Option T)) (i : ℕ) (o : Option T) (d : T) → IsPacked os → i < length (items_present os) → o ≡ get_or os i o → o ≡ Some (get_or (items_present os) i d)
  cell_at os i o d p lt e = e ∙ cell_is os i o d p lt

  first_of : (xs : List T) (i : ℕ) → i < length xs → T
  first_of [] i lt = absurd (omega arith)
  first_of (x ∷ xs) i lt = x

  pub held_cell : (os : List (Option T)) (i : ℕ) (o : Option T) → IsPacked os → i < length (items_present os) → o ≡ get_or os i o → get_or os i o ≡ none → ⊥
  held_cell os i o p lt e z =
      let s = cell_at os i o (first_of (items_present os) i lt) p lt e in
      cc
