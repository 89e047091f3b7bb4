-- Two neighbours that are rebalanced in their cells.
--     lower_is, upper_is      the nodes in two cells, each in its half
--     two_packed, first_cell, shifted_cells      these cells set
--     len_within, counts_then      the counts beside them
--     merged_node, shifted_node      the node afterwards
--     neighbours      the two are neighbours that may be rebalanced
use Rattle.std.proofs.Common.{◌≡◌, ℕ, ◌+◌, ◌-◌, ◌^◌, ◌<◌, ◌≤◌, List, [], ◌∷◌, ◌++◌, length, map, take, drop, set, get_or, refl, ap, sym, ◌∙◌, inl, inr, subst, arith, length-append, length-set, min, Option, Some}
use Rattle.std.proofs.Common.{◌≢◌}
use Rattle.std.specs.List.{remove, All}
use Rattle.std.proofs.lemmas.Bool.{cases_eq, cases_lt}
use Rattle.std.proofs.lemmas.Grind.{common_steps}
use Rattle.std.proofs.lemmas.List.{take-set, take-set-le, drop-set-lt, get_or-append-add, get_or_append_left, get_or-set_same, get_or_default, map-set, set-append_left, set-append_right}
use Rattle.std.proofs.lemmas.List.Edits.{length-remove, get_or-remove_below, get_or-remove_above}
use Rattle.iddqd_ord_index.specs.Cells.{IsPacked}
use Rattle.iddqd_ord_index.specs.Neighbours.{AreNeighbours, IsMergedAt, IsNear, IsShifted, IsShiftedAt, IsShort}
use Rattle.iddqd_ord_index.specs.Nodes.{subtrees}
use Rattle.iddqd_ord_index.specs.Shape.{Subtree, in_order, starts, lists, levels, unused, IsBranch}
use Rattle.iddqd_ord_index.specs.declared.tree.node.Node.{Node}
use Rattle.iddqd_ord_index.proofs.BelowLemmas.{length-lists, list_at, subtree_at}
use Rattle.iddqd_ord_index.proofs.EditLemmas.{IsMade, put_packed, put_subtrees}
use Rattle.iddqd_ord_index.proofs.HalfLemmas.{forked_of, levels_of}
use Rattle.iddqd_ord_index.proofs.InOrderLemmas.{starts_drop, starts_split, two_at, with_next}
use Rattle.iddqd_ord_index.proofs.PackedLemmas.{map-remove}

-- two branches that are set
map_two : {B : Type 0} (f : Subtree → B) (ts : List Subtree) (j : ℕ) (lower upper : Subtree) → map f (set (set ts j lower) (j + 1) upper) ≡ set (set (map f ts) j (f lower)) (j + 1) (f upper)
map_two f ts j lower upper = map-set f (set ts j lower) (j + 1) upper ∙ ap (λ l. set l (j + 1) (f upper)) (map-set f ts j lower)

set_first : (ts : List Subtree) (j : ℕ) (lower upper : Subtree) → j + 1 < length ts → get_or (set (set ts j lower) (j + 1) upper) j unused ≡ lower
set_first ts j lower upper within = grind (arith, common_steps)

-- cells in two halves, with the last of the first and the first of the second set
module _ (os front back : List (Option Node)) (j : ℕ) (packed : IsPacked os) (within : j + 1 < length (subtrees os)) (halves : os ≡ front ++ back) (n : length front ≡ j + 1) where
  pub lower_is : (o : Option Node) (t : Node) → o ≡ get_or front j o → get_or front j o ≡ Some t → get_or (subtrees os) j unused ≡ t
  lower_is o t at some =
      subtree_at os j o t unused packed (omega (arith, within)) (at ∙ sym (ap (λ l. get_or l j o) halves ∙ get_or_append_left front back o j (omega arith))) (at ∙ some)

  pub upper_is : (o : Option Node) (t : Node) → o ≡ get_or back 0 o → get_or back 0 o ≡ Some t → get_or (subtrees os) (j + 1) unused ≡ t
  upper_is o t at some =
      let k : j + 1 ≡ length front + 0 = omega arith in
      subtree_at os (j + 1) o t unused packed within (at ∙ sym (ap (λ l. get_or l (j + 1) o) halves ∙ (ap (λ k. get_or (front ++ back) k o) k ∙ get_or-append-add front back 0 o))) (at ∙ some)

  module _ (lower upper : Node) where
    two_cells : set front j (Some lower) ++ set back 0 (Some upper) ≡ set (set os j (Some lower)) (j + 1) (Some upper)
    two_cells =
        let z : (j + 1) - (j + 1) ≡ 0 = omega arith in
        let m = length-set front j (Some lower) in
        rw (halves, set-append_left front back j (Some lower) (omega arith), set-append_right (set front j (Some lower)) back (j + 1) (j + 1) (Some upper) (m ∙ n) (omega arith), z) refl

    first : IsPacked (set os j (Some lower))
    first = put_packed os j lower packed (omega (arith, within))

    second : j + 1 < length (subtrees (set os j (Some lower)))
    second = omega (arith, within, ap length (put_subtrees os j lower packed (omega (arith, within))), length-set (subtrees os) j lower)

    pub two_packed : IsPacked (set front j (Some lower) ++ set back 0 (Some upper))
    two_packed = subst (λ l. IsPacked l) (sym two_cells) (put_packed (set os j (Some lower)) (j + 1) upper first second)

    two_subtrees : subtrees (set front j (Some lower) ++ set back 0 (Some upper)) ≡ set (set (subtrees os) j lower) (j + 1) upper
    two_subtrees =
        ap subtrees two_cells ∙ (put_subtrees (set os j (Some lower)) (j + 1) upper first second ∙ ap (λ l. set l (j + 1) upper) (put_subtrees os j lower packed (omega (arith, within))))

    pub first_cell : get_or (subtrees (set front j (Some lower) ++ set back 0 (Some upper))) j unused ≡ lower
    first_cell = ap (λ l. get_or l j unused) two_subtrees ∙ set_first (subtrees os) j lower upper within

    pub shifted_cells : (middle top : ℕ) (l u : Node) → get_or (subtrees os) j unused ≡ l → get_or (subtrees os) (j + 1) unused ≡ u → IsShifted l middle u lower top upper
        → IsShiftedAt j middle (subtrees os) top (subtrees (set front j (Some lower) ++ set back 0 (Some upper)))
    shifted_cells middle top l u a b s =
        record { lower = lower; upper = upper; shifted = subst (λ x. IsShifted x middle (get_or (subtrees os) (j + 1) unused) lower top upper) (sym a) (subst (λ y. IsShifted l middle y lower top upper) (sym b) s); branches = two_subtrees }

-- the sum of two neighbours' slots stays
pub same_sum : (a b lower upper : Subtree) (middle top : ℕ) → IsShifted a middle b lower top upper → length a.slots + length b.slots ≡ length lower.slots + length upper.slots
same_sum a b lower upper middle top s = omega (arith, ap length s.slots, length-append a.slots (middle ∷ b.slots), length-append lower.slots (top ∷ upper.slots))

-- the numbers of slots below two branches between which one has moved
module _ (ts us : List Subtree) (j middle top : ℕ) (s : IsShiftedAt j middle ts top us) (within : j + 1 < length ts) where
  lower_then : get_or us j unused ≡ s.lower
  lower_then = ap (λ l. get_or l j unused) s.branches ∙ set_first ts j s.lower s.upper within

  module _ (first second len : ℕ) (f : first ≡ length (get_or ts j unused).slots) (g : second ≡ length (get_or ts (j + 1) unused).slots) (l : len ≡ length (get_or us j unused).slots) where
    pub len_within : len ≤ first + second
    len_within = omega (arith, same_sum _ _ _ _ _ _ s.shifted, ap (λ t. length t.slots) lower_then)

    pub counts_then : (ns : List ℕ) → ns ≡ map (λ t. length t.slots) ts → set (set ns j len) (j + 1) (first + second - len) ≡ map (λ t. length t.slots) us
    counts_then ns n =
        let a : len ≡ length s.lower.slots = l ∙ ap (λ t. length t.slots) lower_then in
        let b : first + second - len ≡ length s.upper.slots = omega (arith, same_sum _ _ _ _ _ _ s.shifted) in
        rw (n, b, a) (sym (ap (λ l. map (λ t. length t.slots) l) s.branches ∙ map_two (λ t. length t.slots) ts j s.lower s.upper))

shifted_list : (ls : List (List ℕ)) (ss : List ℕ) (j : ℕ) (l u : List ℕ) (s t : ℕ) → length ls ≡ length ss + 1 → j < length ss → s ≡ get_or ss j s
    → get_or ls j [] ++ s ∷ get_or ls (j + 1) [] ≡ l ++ t ∷ u
    → in_order (set (set ls j l) (j + 1) u) (set ss j t) ≡ in_order ls ss
shifted_list ls ss j l u s t n lt e h =
    let ms = set (set ls j l) (j + 1) u in
    let a : take j ms ≡ take j ls = grind (arith, common_steps, take-set-le, take-set) in
    let b : get_or ms j [] ≡ l = grind (arith, common_steps) in
    let c : get_or ms (j + 1) [] ≡ u = grind (arith, common_steps) in
    let d : drop (j + 1 + 1) ms ≡ drop (j + 1 + 1) ls = grind (arith, common_steps, drop-set-lt) in
    two_at ms (set ss j t) j s (grind (arith, common_steps)) (grind (arith, common_steps))
    ∙ rw (a, b, c, d, take-set ss j t, get_or-set_same ss j t s lt, drop-set-lt (j + 1) ss j t (omega arith), ← h) (rw (← e) refl ∙ sym (two_at ls ss j s n lt))

merged_list : (ls : List (List ℕ)) (ss : List ℕ) (j : ℕ) (l : List ℕ) (s : ℕ) → length ls ≡ length ss + 1 → j < length ss → s ≡ get_or ss j s
    → l ≡ get_or ls j [] ++ s ∷ get_or ls (j + 1) []
    → in_order (set (remove ls (j + 1)) j l) (remove ss j) ≡ in_order ls ss
merged_list ls ss j l s n lt e h = with_next ls ss j l n lt ∙ rw h (rw (← e) refl ∙ sym (two_at ls ss j s n lt))

-- what holds of an element, if one is set of which it holds
set_holds : (P : Subtree → Type 0) (ts : List Subtree) (i k : ℕ) (t d : Subtree) → i < length ts → P t → (k ≢ i → P (get_or ts k d)) → P (get_or (set ts i t) k d)
set_holds P ts i k t d lt here others =
    elim (cases_eq k i) [
      | inl at ↦ subst P (grind (arith, common_steps)) here
      | inr off ↦ subst P (grind (arith, common_steps)) (others off)
    ]

-- the node that has two neighbours
module _ (ts : List Subtree) (ss : List ℕ) (j s : ℕ) (n : AreNeighbours ts ss j) (e : s ≡ get_or ss j s) where
  abbrev lower : Subtree
  lower = get_or ts j unused

  abbrev upper : Subtree
  upper = get_or ts (j + 1) unused

  within : j < length ss
  within = omega (arith, n.two.within, n.fork)

  as_branch : (t : Subtree) → IsBranch (lower.height + 1) t → IsBranch (levels ts) t
  as_branch t b = subst (λ h. IsBranch h t) n.height b

  lower_list : lower.slots ≡ get_or (lists ts) j []
  lower_list = sym (list_at ts j (omega (arith, n.two.within)))

  upper_list : upper.slots ≡ get_or (lists ts) (j + 1) []
  upper_list = sym (list_at ts (j + 1) n.two.within)

  listed : length (lists ts) ≡ length ss + 1
  listed = length-lists ts ∙ n.fork

  all_set : (l u : Subtree) → IsBranch (levels ts) l → IsBranch (levels ts) u → All (IsBranch (levels ts)) (set (set ts j l) (j + 1) u)
  all_set l u a b k d lt =
      let q = length-set ts j l in
      let r = length-set (set ts j l) (j + 1) u in
      set_holds (IsBranch (levels ts)) (set ts j l) (j + 1) k u d (omega (arith, n.two.within)) b
      (λ away. set_holds (IsBranch (levels ts)) ts j k l d (omega (arith, n.two.within)) a
      (λ off. subst (λ x. IsBranch (levels ts) x) (sym (get_or_default ts k d unused (omega arith))) (n.others k (omega arith) off away)))

  all_merged : (l : Subtree) → IsBranch (levels ts) l → All (IsBranch (levels ts)) (set (remove ts (j + 1)) j l)
  all_merged l a k d lt =
      let q = length-remove ts (j + 1) n.two.within in
      let r = length-set (remove ts (j + 1)) j l in
      set_holds (IsBranch (levels ts)) (remove ts (j + 1)) j k l d (omega (arith, n.two.within)) a
      (λ off. elim (cases_lt k (j + 1)) [
        | inl below ↦ (
            subst (λ x. IsBranch (levels ts) x) (grind (arith, common_steps, get_or-remove_below, get_or_default))
            (n.others k (omega arith) off (λ z. omega (arith, z)))
            )
        | inr above ↦ (
            subst (λ x. IsBranch (levels ts) x) (grind (arith, common_steps, get_or-remove_above, get_or_default))
            (n.others (k + 1) (omega arith) (λ z. omega (arith, z)) (λ z. omega (arith, z)))
            )
      ])

  made_of : (us : List Subtree) (ss' : List ℕ) → All (IsBranch (levels ts)) us → length us ≡ length ss' + 1 → in_order (lists us) ss' ≡ in_order (lists ts) ss → IsMade ts us ss' (in_order (lists ts) ss)
  made_of us ss' a m l = record { forked = forked_of (levels ts) us ss' a m; height = levels_of (levels ts) us (omega arith) a; list = l }

  pub shifted_node : (us : List Subtree) (t : ℕ) → IsShiftedAt j s ts t us → IsMade ts us (set ss j t) (in_order (lists ts) ss)
  shifted_node us t m =
      let b = m.shifted in
      let q = length-set ts j m.lower in
      let r = length-set (set ts j m.lower) (j + 1) m.upper in
      let x : lists us ≡ set (set (lists ts) j m.lower.slots) (j + 1) m.upper.slots = ap lists m.branches ∙ map_two (λ t. t.slots) ts j m.lower m.upper in
      let h : get_or (lists ts) j [] ++ s ∷ get_or (lists ts) (j + 1) [] ≡ m.lower.slots ++ t ∷ m.upper.slots =
      ap (λ l. l ++ s ∷ get_or (lists ts) (j + 1) []) (sym lower_list) ∙ (ap (λ l. lower.slots ++ s ∷ l) (sym upper_list) ∙ b.slots) in
      made_of us (set ss j t)
      (subst (λ l. All (IsBranch (levels ts)) l) (sym m.branches) (all_set m.lower m.upper (as_branch m.lower b.lower_branch) (as_branch m.upper b.upper_branch)))
      (omega (arith, ap length m.branches, length-set ss j t, n.fork))
      (ap (λ l. in_order l (set ss j t)) x ∙ shifted_list (lists ts) ss j m.lower.slots m.upper.slots s t listed within e h)

  pub merged_node : (us : List Subtree) → IsMergedAt j s ts us → IsMade ts us (remove ss j) (in_order (lists ts) ss)
  merged_node us m =
      let q = length-remove ts (j + 1) n.two.within in
      let r = length-set (remove ts (j + 1)) j m.lower in
      let x : lists us ≡ set (remove (lists ts) (j + 1)) j m.lower.slots =
      ap lists m.branches ∙ (map-set (λ t. t.slots) (remove ts (j + 1)) j m.lower ∙ ap (λ l. set l j m.lower.slots) (map-remove (λ t. t.slots) ts (j + 1))) in
      let h : m.lower.slots ≡ get_or (lists ts) j [] ++ s ∷ get_or (lists ts) (j + 1) [] =
      m.merged.slots ∙ (ap (λ l. l ++ s ∷ upper.slots) lower_list ∙ ap (λ l. get_or (lists ts) j [] ++ s ∷ l) upper_list) in
      made_of us (remove ss j)
      (subst (λ l. All (IsBranch (levels ts)) l) (sym m.branches) (all_merged m.lower (as_branch m.lower m.merged.lower_branch)))
      (omega (arith, ap length m.branches, length-remove ss j within, n.fork))
      (ap (λ l. in_order l (remove ss j)) x ∙ merged_list (lists ts) ss j m.lower.slots s listed within e h)

-- a branch that is a slot short, with the neighbour with which it is rebalanced
module _ (ts : List Subtree) (ss : List ℕ) (i j : ℕ) (near : IsNear ts ss i) (w : j ≡ min i (length ss - 1)) (short : (get_or ts i unused).width < 5) where
  place : j + 1 < length ts
  place = omega (arith, near.branch, near.fork, near.some)

  abbrev both : Type 0
  both = ((get_or ts j unused).height + 1 ≡ levels ts) × ((get_or ts (j + 1) unused).height + 1 ≡ levels ts) × (min (get_or ts j unused).width (get_or ts (j + 1) unused).width ≡ 4) × (9 ≤ (get_or ts j unused).width + (get_or ts (j + 1) unused).width)

  widths : both
  widths =
      elim (cases_lt i (length ss)) [
        | inl lt ↦ (
            let v : get_or ts i unused ≡ get_or ts j unused = ap (λ m. get_or ts m unused) (omega arith) in
            let s = subst (λ x. IsShort (levels ts) x) v near.short in
            let o = near.others (j + 1) place (λ z. omega arith) in
            let q : (get_or ts j unused).width < 5 = subst (λ x. x.width < 5) v short in
            (s.height, o.height, omega (arith, s.wide, o.wide), omega (arith, s.wide, o.wide))
            )
        | inr ge ↦ (
            let v : get_or ts i unused ≡ get_or ts (j + 1) unused = ap (λ m. get_or ts m unused) (omega (arith, near.branch, near.fork, near.some)) in
            let s = subst (λ x. IsShort (levels ts) x) v near.short in
            let o = near.others j (omega (arith, place)) (λ z. omega arith) in
            let q : (get_or ts (j + 1) unused).width < 5 = subst (λ x. x.width < 5) v short in
            (o.height, s.height, omega (arith, s.wide, o.wide), omega (arith, s.wide, o.wide))
            )
      ]

  pub neighbours : starts (lists ts) ≤ 2 ^ 32 → AreNeighbours ts ss j
  neighbours room =
      let b = widths in
      let n = length-lists ts in
      let p = starts_drop (lists ts) j (omega (arith, place)) in
      let q = starts_drop (lists ts) (j + 1) (omega (arith, place)) in
      record {
        two = record {
          within = place;
          pair = record { height = omega (arith, b.0, b.1); short = b.2; other = b.3 };
          room = omega (arith, starts_split (lists ts) j, ap length (list_at ts j (omega (arith, place))), ap length (list_at ts (j + 1) place));
        };
        fork = near.fork;
        height = b.0;
        others = λ k lt off away. near.others k lt (off_both k lt off away);
      }
    where
      off_both : (k : ℕ) → k < length ts → k ≢ j → k ≢ j + 1 → k ≡ i → ⊥
      off_both k lt off away z =
          elim (cases_lt i (length ss)) [
            | inl below ↦ off (omega arith)
            | inr above ↦ away (omega (arith, near.branch, near.fork, near.some))
          ]
