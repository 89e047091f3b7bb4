-- A part that leaves a list: slots of a leaf, or a branch with the own slot before it.
use Rattle.std.proofs.Common.{◌≡◌, ℕ, zero, suc, ◌+◌, ◌-◌, ◌<◌, ◌≤◌, List, [], ◌∷◌, ◌++◌, length, take, drop, set, get_or, refl, ap, sym, ◌∙◌, inl, inr, subst, arith, append_assoc, length-append, length-drop, length-set}
use Rattle.std.specs.List.{copy_within, remove, All}
use Rattle.std.proofs.Math.Seq.{drop-nil}
use Rattle.std.proofs.lemmas.Bool.{cases_lt}
use Rattle.std.proofs.lemmas.List.{drop-drop, drop-set-lt, drop-take, get_or-set_same, length-take-le, nil_from_length, take-append-drop, take-set, take-take, take_at, take_more_set, drop_at, set_at}
use Rattle.std.proofs.lemmas.List.Edits.{length-remove, take-paste}
use Rattle.std.proofs.lemmas.List.Elements.{All-append, All-drop, All-take}
use Rattle.std.proofs.lemmas.Slice.{take-put_mid, drop-put_mid}
use borrow.Rule.Slice.PartMut.{put_mid}
use Rattle.iddqd_ord_index.specs.NodeRemoval.{LosesPart, Writes}
use Rattle.iddqd_ord_index.specs.Shape.{Subtree, behind, in_order, levels, lists, starts, IsBranch, IsBranchAt, IsForked}
use Rattle.iddqd_ord_index.proofs.HalfLemmas.{forked_of, levels_of}
use Rattle.iddqd_ord_index.proofs.InOrderLemmas.{pairs, in_order_cut, length-pairs, two_at, without_next}
use Rattle.iddqd_ord_index.proofs.PackedLemmas.{map-remove}

-- slots in the front of an array, without a part of them
pub front_without_part : (xs : List ℕ) (i count len : ℕ) → i + count ≤ len → len ≤ length xs
    → take (len - count) (copy_within xs (i + count) len i) ≡ take i (take len xs) ++ drop (i + count) (take len xs)
front_without_part xs i count len le fits =
    let m = len - (i + count) in
    let a : len - count ≡ i + m = omega arith in
    let b : len ≡ (i + count) + m = omega arith in
    ap (λ k. take k (copy_within xs (i + count) len i)) a
    ∙ (take-paste xs i (drop (i + count) xs) m (omega arith) (omega (arith, length-drop (i + count) xs))
    ∙ (ap (λ l. l ++ take m (drop (i + count) xs)) (sym (take-take i len xs (omega arith)))
    ∙ ap (λ l. take i (take len xs) ++ l) (sym (ap (λ k. drop (i + count) (take k xs)) b ∙ drop-take (i + count) m xs))))

-- slots in the front of an array, some of them written
pub front_written : (xs ys : List ℕ) (i k count len : ℕ) → k ≡ count → length ys ≡ count → i + count ≤ len → len ≤ length xs
    → take len (put_mid i k xs ys) ≡ take i (take len xs) ++ (ys ++ drop (i + count) (take len xs))
front_written xs ys i k count len e long le fits =
    let m = len - (i + count) in
    let b : len ≡ (i + count) + m = omega arith in
    let new = put_mid i k xs ys in
    let first : take (i + count) (take len new) ≡ take i (take len xs) ++ ys =
    take-take (i + count) len new le ∙ (take-put_mid i k xs ys (i + count) (omega arith) (omega arith) ∙ ap (λ l. l ++ ys) (sym (take-take i len xs (omega arith)))) in
    let last : drop (i + count) (take len new) ≡ drop (i + count) (take len xs) =
    ap (λ n. drop (i + count) (take n new)) b ∙ (drop-take (i + count) m new ∙ (ap (take m) (drop-put_mid i k xs ys (i + count) (omega arith) (omega arith) (omega arith))
    ∙ (sym (drop-take (i + count) m xs) ∙ ap (λ n. drop (i + count) (take n xs)) (sym b)))) in
    sym (take-append-drop (i + count) (take len new)) ∙ (ap (λ l. l ++ drop (i + count) (take len new)) first
    ∙ (ap (λ l. (take i (take len xs) ++ ys) ++ l) last ∙ append_assoc (take i (take len xs)) ys (drop (i + count) (take len xs))))

-- a node that has fewer slots of its own only if it has enough
pub still_wide : (old new : ℕ) → (new < old → 5 ≤ new) → 5 ≤ old → 5 ≤ new
still_wide old new least wide = elim (cases_lt new old) [ inl lt ↦ least lt | inr ge ↦ omega arith ]

-- some slots of a leaf
pub leaf_part : (at most count : ℕ) (ss old new : List ℕ) → old ≡ ss → new ≡ take at ss ++ drop (at + count) ss → count ≤ most → at + count ≤ length ss → LosesPart at most count old new
leaf_part at most count ss old new e f le fits =
    let n = length-take-le count (drop at ss) (omega (arith, length-drop at ss)) in
    record {
      front = take at ss;
      part = take count (drop at ss);
      back = drop (at + count) ss;
      old_is = e ∙ sym (ap (λ l. take at ss ++ (take count (drop at ss) ++ l)) (sym (drop-drop count at ss)) ∙ (ap (λ l. take at ss ++ l) (take-append-drop count (drop at ss)) ∙ take-append-drop at ss));
      new_is = f;
      from = omega (arith, length-take-le at ss (omega arith));
      to = omega (arith, n, length-take-le at ss (omega arith));
      number = sym n;
    }

-- slots of a leaf that were written
pub leaf_written : (at count : ℕ) (more ss old new : List ℕ) → old ≡ ss → new ≡ take at ss ++ (take count more ++ drop (at + count) ss) → at + count ≤ length ss → Writes at count more old new
unfolding leaf_part
leaf_written at count more ss old new e f fits =
    let p = leaf_part at count count ss old (take at ss ++ drop (at + count) ss) e refl (omega arith) fits in
    record { front = take at ss; part = p.part; back = drop (at + count) ss; old_is = p.old_is; new_is = f; place = length-take-le at ss (omega arith); number = sym p.number }

-- one slot that was written
pub one_written : (at slot : ℕ) (more old new : List ℕ) → new ≡ set old at slot → take 1 more ≡ slot ∷ [] → at < length old → Writes at 1 more old new
one_written at slot more old new e f lt =
    let n = length-set old at slot in
    leaf_written at 1 more old old new refl
    (e ∙ (sym (take-append-drop (at + 1) (set old at slot)) ∙ rw (take_more_set old at slot lt, drop-set-lt (at + 1) old at slot (omega arith), f, append_assoc) refl))
    (omega arith)

module _ (ls : List (List ℕ)) (ss : List ℕ) (at most i rest : ℕ) (branch_at : IsBranchAt ls at i rest) (e : length ls ≡ length ss + 1) where
  abbrev before : List ℕ
  before = pairs (take i ls) (take i ss)

  abbrev after : List ℕ
  after = behind (drop (suc i) ls) (drop i ss)

  length-before : length before ≡ starts (take i ls)
  length-before = length-pairs (take i ls) (take i ss) (length-take-le i ls (omega (arith, branch_at.branch)) ∙ sym (length-take-le i ss (omega (arith, branch_at.branch))))

  -- a part of the i-th branch
  pub branch_part : (below count : ℕ) (new : List ℕ) → below ≤ most → LosesPart rest below count (get_or ls i []) new → LosesPart at most count (in_order ls ss) (in_order (set ls i new) ss)
  branch_part below count new le p =
      let n = length-before in
      let m = length-append before p.front in
      record {
        front = before ++ p.front;
        part = p.part;
        back = p.back ++ after;
        old_is = in_order_cut ls ss i branch_at.branch e ∙ rw (p.old_is, append_assoc, append_assoc, append_assoc) refl;
        new_is = in_order_cut (set ls i new) ss i (omega (arith, branch_at.branch, length-set ls i new)) (length-set ls i new ∙ e)
            ∙ rw (take-set ls i new, get_or-set_same ls i new [] branch_at.branch, drop-set-lt (suc i) ls i new (omega arith), p.new_is, append_assoc, append_assoc) refl;
        from = omega (arith, p.from, branch_at.sum);
        to = omega (arith, p.to, branch_at.sum);
        number = p.number;
      }

  -- slots of the i-th branch that were written, at most `fits` of them
  pub branch_written : (fits count : ℕ) (more new : List ℕ) → count ≤ fits → Writes rest count (take fits more) (get_or ls i []) new → Writes at count more (in_order ls ss) (in_order (set ls i new) ss)
  branch_written fits count more new le p =
      let n = length-before in
      let m = length-append before p.front in
      let written : new ≡ p.front ++ (take count more ++ p.back) = p.new_is ∙ ap (λ l. p.front ++ (l ++ p.back)) (take-take count fits more le) in
      record {
        front = before ++ p.front;
        part = p.part;
        back = p.back ++ after;
        old_is = in_order_cut ls ss i branch_at.branch e ∙ rw (p.old_is, append_assoc, append_assoc, append_assoc) refl;
        new_is = in_order_cut (set ls i new) ss i (omega (arith, branch_at.branch, length-set ls i new)) (length-set ls i new ∙ e)
            ∙ rw (take-set ls i new, get_or-set_same ls i new [] branch_at.branch, drop-set-lt (suc i) ls i new (omega arith), written, append_assoc, append_assoc, append_assoc) refl;
        place = omega (arith, p.place, branch_at.sum);
        number = p.number;
      }

  -- the next branch, and the own slot before it
  pub next_part : (len : ℕ) → len ≡ length (get_or ls i []) → i < length ss → length (get_or ls (i + 1) []) < most - (len - rest) → LosesPart at most (length (get_or ls (i + 1) []) + 1) (in_order ls ss) (in_order (remove ls (i + 1)) (remove ss i))
  next_part len n lt fits =
      let b = length-before in
      let m = length-append before (get_or ls i []) in
      record {
        front = before ++ get_or ls i [];
        part = get_or ss i 0 ∷ get_or ls (i + 1) [];
        back = behind (drop (i + 1 + 1) ls) (drop (i + 1) ss);
        old_is = two_at ls ss i 0 e lt ∙ rw (append_assoc, append_assoc) refl;
        new_is = without_next ls ss i e lt ∙ sym (append_assoc before (get_or ls i []) _);
        from = omega (arith, branch_at.sum, branch_at.within);
        to = omega (arith, branch_at.sum, branch_at.within);
        number = omega arith;
      }

-- the node without them
module _ (ts : List Subtree) (ss : List ℕ) (i : ℕ) (f : IsForked ts ss) (e : length ts ≡ length ss + 1) (lt : i < length ss) where
  all_without : All (IsBranch (levels ts)) (remove ts (i + 1))
  all_without = All-append (IsBranch (levels ts)) (take (i + 1) ts) (drop (suc (i + 1)) ts) (All-take (IsBranch (levels ts)) (i + 1) ts f.branches) (All-drop (IsBranch (levels ts)) (suc (i + 1)) ts f.branches)

  length_without : length (remove ts (i + 1)) ≡ length (remove ss i) + 1
  length_without = omega (arith, length-remove ts (i + 1) (omega arith), length-remove ss i lt)

  pub forked_without : IsForked (remove ts (i + 1)) (remove ss i)
  forked_without = forked_of (levels ts) (remove ts (i + 1)) (remove ss i) all_without length_without

  pub levels_without : levels (remove ts (i + 1)) ≡ levels ts
  levels_without = levels_of (levels ts) (remove ts (i + 1)) (omega (arith, length_without)) all_without

  pub lists_without : lists (remove ts (i + 1)) ≡ remove (lists ts) (i + 1)
  lists_without = map-remove (λ t. t.slots) ts (i + 1)

-- what is left to remove, when a part of it is gone
module _ (at most count : ℕ) (old new : List ℕ) (p : LosesPart at most count old new) where
  pub part_within : count ≤ most
  part_within = omega (arith, p.from, p.to, p.number)

  pub part_length : length new + count ≡ length old
  part_length = omega (arith, ap length p.old_is, ap length p.new_is, length-append p.front (p.part ++ p.back), length-append p.part p.back, length-append p.front p.back, p.number)

-- the list in which slots were written: up to the last of them, and behind it
module _ (at count : ℕ) (more old new : List ℕ) (p : Writes at count more old new) (fits : count ≤ length more) where
  pub written_front : take (at + count) new ≡ take at old ++ take count more
  written_front =
      let n = length-take-le count more fits in
      let k : at + count ≡ length p.front + count = omega (arith, p.place) in
      let seam = take_at (p.front ++ take count more) p.back (at + count) (omega (arith, length-append p.front (take count more), p.place)) in
      ap (take (at + count)) (p.new_is ∙ sym (append_assoc p.front (take count more) p.back))
      ∙ (seam ∙ ap (λ l. l ++ take count more) (sym (ap (take at) p.old_is ∙ take_at p.front (p.part ++ p.back) at p.place)))

  pub written_back : drop (at + count) new ≡ drop (at + count) old
  written_back =
      let n = length-take-le count more fits in
      ap (drop (at + count)) (p.new_is ∙ sym (append_assoc p.front (take count more) p.back))
      ∙ (drop_at (p.front ++ take count more) p.back (at + count) (omega (arith, length-append p.front (take count more), p.place))
      ∙ sym (ap (drop (at + count)) (p.old_is ∙ sym (append_assoc p.front p.part p.back))
      ∙ drop_at (p.front ++ p.part) p.back (at + count) (omega (arith, length-append p.front p.part, p.place, p.number))))

  pub written_length : length new ≡ length old
  written_length =
      omega (arith, ap length p.old_is, ap length p.new_is, length-append p.front (p.part ++ p.back), length-append p.part p.back, length-append p.front (take count more ++ p.back), length-append (take count more) p.back, length-take-le count more fits, p.number)

-- one slot that was written is set
pub written_set : (at count slot : ℕ) (old new : List ℕ) → Writes at count (slot ∷ []) old new → count ≡ 1 → new ≡ set old at slot
written_set at count slot old new p e = p.new_is ∙ (ap (λ n. p.front ++ (take n (slot ∷ []) ++ p.back)) e ∙ (sym (of_one p.part (p.number ∙ e)) ∙ ap (λ l. set l at slot) (sym p.old_is)))
  where
    of_one : (part : List ℕ) → length part ≡ 1 → set (p.front ++ (part ++ p.back)) at slot ≡ p.front ++ slot ∷ p.back
    of_one [] n = absurd (omega arith)
    of_one (x ∷ []) n = set_at p.front x p.back slot at p.place
    of_one (x ∷ (y ∷ part)) n = absurd (omega arith)

-- no slot is gone, if none was removed
pub none_gone : (at most : ℕ) (old new : List ℕ) → LosesPart at most 0 old new → new ≡ old
none_gone at most old new p =
    p.new_is ∙ (ap (λ l. p.front ++ (l ++ p.back)) (sym (nil_from_length p.part (sym p.number))) ∙ sym p.old_is)

-- one slot is a part
pub one_part : (at most : ℕ) (old new : List ℕ) → 0 < most → at < length old → new ≡ remove old at → LosesPart at most 1 old new
one_part at most old new some lt e =
    let n : suc at ≡ at + 1 = omega arith in
    leaf_part at most 1 old old new refl (e ∙ ap (λ k. take at old ++ drop k old) n) (omega arith) (omega arith)

-- what holds of a list still holds without a part of it, if it does without any one element
module _ {X : Type 0} where
  part_after_one : (from to : ℕ) (xs : List X) → from ≤ to → take from (remove xs from) ++ drop to (remove xs from) ≡ take from xs ++ drop (suc to) xs
  part_after_one zero to [] le = drop-nil to
  part_after_one zero to (x ∷ xs) le = refl
  part_after_one (suc from) zero xs le = absurd (omega arith)
  part_after_one (suc from) (suc to) [] le = refl
  part_after_one (suc from) (suc to) (x ∷ xs) le = ap (λ l. x ∷ l) (part_after_one from to xs (omega arith))

  one_by_one : (P : List X → Type 0) → ((xs : List X) (i : ℕ) → P xs → P (remove xs i)) → (count from to : ℕ) (xs : List X) → from + count ≡ to → P xs → P (take from xs ++ drop to xs)
  one_by_one P step zero from to xs e p =
      let n : from ≡ to = omega arith in
      subst (λ n. P (take from xs ++ drop n xs)) n (subst P (sym (take-append-drop from xs)) p)
  one_by_one P step (suc count) from to xs e p =
      let n : suc (to - 1) ≡ to = omega arith in
      subst (λ n. P (take from xs ++ drop n xs)) n
      (subst P (part_after_one from (to - 1) xs (omega arith)) (one_by_one P step count from (to - 1) (remove xs from) (omega arith) (step xs from p)))

  pub without_part : (P : List X → Type 0) → ((xs : List X) (i : ℕ) → P xs → P (remove xs i)) → (from to : ℕ) (xs : List X) → from ≤ to → P xs → P (take from xs ++ drop to xs)
  without_part P step from to xs le p = one_by_one P step (to - from) from to xs (omega arith) p
