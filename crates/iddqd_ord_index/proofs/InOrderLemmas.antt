-- The list of a node from those of its branches.
use Rattle.std.proofs.Common.{◌≡◌, ℕ, suc, zero, ◌+◌, ◌<◌, ◌≤◌, List, [], ◌∷◌, ◌++◌, length, take, drop, set, get_or, refl, ap, sym, inl, inr, ◌∙◌, arith, append_assoc, length-append, add-one}
use Rattle.std.specs.List.{remove}
use Rattle.std.proofs.lemmas.List.{append-nil, take-append-drop, drop_more, length-take-le, get_or-append-add, get_or_append_left, get_or_at, drop_all, set_at, take_more}
use Rattle.std.proofs.lemmas.Bool.{cases_lt}
use Rattle.iddqd_ord_index.specs.Shape.{behind, in_order, starts, IsBranchAt}

-- lists, each with a slot behind it
abbrev pub pairs : List (List ℕ) → List ℕ → List ℕ
pairs [] ss = []
pairs (l ∷ ls) [] = []
pairs (l ∷ ls) (s ∷ ss) = l ++ s ∷ pairs ls ss

pub length-pairs : (ls : List (List ℕ)) (ss : List ℕ) → length ls ≡ length ss → length (pairs ls ss) ≡ starts ls
length-pairs [] ss e = refl
length-pairs (l ∷ ls) [] e = absurd (omega arith)
length-pairs (l ∷ ls) (s ∷ ss) e = omega (arith, length-append l (s ∷ pairs ls ss), length-pairs ls ss (omega arith))

behind_in_order : (fs : List (List ℕ)) (l : List ℕ) (bs : List (List ℕ)) (s : ℕ) (ss : List ℕ) → behind (fs ++ l ∷ bs) (s ∷ ss) ≡ s ∷ in_order (fs ++ l ∷ bs) ss
behind_in_order [] l bs s ss = refl
behind_in_order (a ∷ fs) l bs s ss = refl

-- the parts of the list at a branch
pub in_order_at : (fs : List (List ℕ)) (l : List ℕ) (bs : List (List ℕ)) (ss ts : List ℕ) → length fs ≡ length ss
    → in_order (fs ++ l ∷ bs) (ss ++ ts) ≡ pairs fs ss ++ (l ++ behind bs ts)
in_order_at [] l bs [] ts e = refl
in_order_at [] l bs (s ∷ ss) ts e = absurd (omega arith)
in_order_at (a ∷ fs) l bs [] ts e = absurd (omega arith)
in_order_at (a ∷ fs) l bs (s ∷ ss) ts e =
    ap (λ r. a ++ r) (behind_in_order fs l bs s (ss ++ ts) ∙ ap (λ r. s ∷ r) (in_order_at fs l bs ss ts (omega arith)))
    ∙ sym (append_assoc a (s ∷ pairs fs ss) (l ++ behind bs ts))

-- the halves of a node, with the slot between them
pub in_order_join : (fs : List (List ℕ)) (b : List ℕ) (bs : List (List ℕ)) (ss : List ℕ) (m : ℕ) (ts : List ℕ) → length fs ≡ length ss + 1
    → in_order (fs ++ b ∷ bs) (ss ++ m ∷ ts) ≡ in_order fs ss ++ m ∷ in_order (b ∷ bs) ts
in_order_join [] b bs ss m ts e = absurd (omega arith)
in_order_join (a ∷ []) b bs [] m ts e = ap (λ r. r ++ m ∷ (b ++ behind bs ts)) (sym (append-nil a))
in_order_join (a ∷ []) b bs (s ∷ ss) m ts e = absurd (omega arith)
in_order_join (a ∷ (c ∷ fs)) b bs [] m ts e = absurd (omega arith)
in_order_join (a ∷ (c ∷ fs)) b bs (s ∷ ss) m ts e =
    ap (λ r. a ++ s ∷ r) (in_order_join (c ∷ fs) b bs ss m ts (omega arith))
    ∙ sym (append_assoc a (s ∷ in_order (c ∷ fs) ss) (m ∷ in_order (b ∷ bs) ts))

-- the same at a place
pub in_order_cut : (ls : List (List ℕ)) (ss : List ℕ) (i : ℕ) → i < length ls → length ls ≡ length ss + 1
    → in_order ls ss ≡ pairs (take i ls) (take i ss) ++ (get_or ls i [] ++ behind (drop (suc i) ls) (drop i ss))
in_order_cut ls ss i lt e =
    let c : ls ≡ take i ls ++ get_or ls i [] ∷ drop (suc i) ls = sym (take-append-drop i ls) ∙ ap (λ r. take i ls ++ r) (drop_more ls i [] lt ∙ rw add-one refl) in
    let d = sym (take-append-drop i ss) in
    let n = length-take-le i ls (omega arith) in
    let m = length-take-le i ss (omega arith) in
    ap (λ r. in_order r ss) c ∙ (ap (λ r. in_order (take i ls ++ get_or ls i [] ∷ drop (suc i) ls) r) d
    ∙ in_order_at (take i ls) (get_or ls i []) (drop (suc i) ls) (take i ss) (drop i ss) (n ∙ sym m))

-- the list at two neighbours
pub two_at : (ls : List (List ℕ)) (ss : List ℕ) (j d : ℕ) → length ls ≡ length ss + 1 → j < length ss
    → in_order ls ss ≡ pairs (take j ls) (take j ss) ++ ((get_or ls j [] ++ get_or ss j d ∷ get_or ls (j + 1) []) ++ behind (drop (j + 1 + 1) ls) (drop (j + 1) ss))
two_at ls ss j d n lt =
    let o : suc j ≡ j + 1 = omega arith in
    let l : drop (suc j) ls ≡ get_or ls (j + 1) [] ∷ drop (j + 1 + 1) ls = ap (λ k. drop k ls) o ∙ drop_more ls (j + 1) [] (omega arith) in
    let s : drop j ss ≡ get_or ss j d ∷ drop (j + 1) ss = drop_more ss j d lt in
    in_order_cut ls ss j (omega arith) n ∙ rw (l, s, append_assoc) refl

-- the list with one in the place of both
pub with_next : (ls : List (List ℕ)) (ss : List ℕ) (j : ℕ) (l : List ℕ) → length ls ≡ length ss + 1 → j < length ss
    → in_order (set (remove ls (j + 1)) j l) (remove ss j) ≡ pairs (take j ls) (take j ss) ++ (l ++ behind (drop (j + 1 + 1) ls) (drop (j + 1) ss))
with_next ls ss j l n lt =
    let o : suc (j + 1) ≡ j + 1 + 1 = omega arith in
    let p : suc j ≡ j + 1 = omega arith in
    let m = length-take-le j ls (omega arith) in
    let r : remove ls (j + 1) ≡ take j ls ++ get_or ls j [] ∷ drop (j + 1 + 1) ls = rw (take_more ls j [] (omega arith), append_assoc, o) refl in
    ap (λ k. in_order (set k j l) (remove ss j)) r
    ∙ rw (set_at (take j ls) (get_or ls j []) (drop (j + 1 + 1) ls) l j m, p)
    (in_order_at (take j ls) l (drop (j + 1 + 1) ls) (take j ss) (drop (j + 1) ss) (m ∙ sym (length-take-le j ss (omega arith))))

-- the list without the second of them, and the slot before it
pub without_next : (ls : List (List ℕ)) (ss : List ℕ) (j : ℕ) → length ls ≡ length ss + 1 → j < length ss
    → in_order (remove ls (j + 1)) (remove ss j) ≡ pairs (take j ls) (take j ss) ++ (get_or ls j [] ++ behind (drop (j + 1 + 1) ls) (drop (j + 1) ss))
without_next ls ss j n lt =
    let o : suc (j + 1) ≡ j + 1 + 1 = omega arith in
    let p : suc j ≡ j + 1 = omega arith in
    let r : remove ls (j + 1) ≡ take j ls ++ get_or ls j [] ∷ drop (j + 1 + 1) ls = rw (take_more ls j [] (omega arith), append_assoc, o) refl in
    ap (λ k. in_order k (remove ss j)) r
    ∙ rw (p)
    (in_order_at (take j ls) (get_or ls j []) (drop (j + 1 + 1) ls) (take j ss) (drop (j + 1) ss) (length-take-le j ls (omega arith) ∙ sym (length-take-le j ss (omega arith))))

pub starts_take : (ls : List (List ℕ)) (i : ℕ) → i < length ls → starts (take (i + 1) ls) ≡ starts (take i ls) + (length (get_or ls i []) + 1)
starts_take [] i lt = absurd (omega arith)
starts_take (l ∷ ls) zero lt = omega arith
starts_take (l ∷ ls) (suc i) lt = rw (add-one) (omega (arith, simp add-one at (starts_take ls i (omega arith))))

pub starts_drop : (ls : List (List ℕ)) (i : ℕ) → i < length ls → starts (drop i ls) ≡ (length (get_or ls i []) + 1) + starts (drop (i + 1) ls)
starts_drop ls i lt = ap starts (drop_more ls i [] lt)

pub starts_split : (ls : List (List ℕ)) (i : ℕ) → starts ls ≡ starts (take i ls) + starts (drop i ls)
starts_split [] zero = refl
starts_split [] (suc i) = refl
starts_split (l ∷ ls) zero = omega arith
starts_split (l ∷ ls) (suc i) = omega (arith, starts_split ls i)

-- an branch_at that is within a branch, or at the slot behind it
pub starts_in_order : (ls : List (List ℕ)) (ss : List ℕ) → length ls ≡ length ss + 1 → starts ls ≡ length (in_order ls ss) + 1
starts_in_order [] ss e = absurd (omega arith)
starts_in_order (l ∷ []) [] e = omega (arith, length-append l [])
starts_in_order (l ∷ []) (s ∷ ss) e = absurd (omega arith)
starts_in_order (l ∷ (k ∷ ls)) [] e = absurd (omega arith)
starts_in_order (l ∷ (k ∷ ls)) (s ∷ ss) e =
    omega (arith, starts_in_order (k ∷ ls) ss (omega arith), length-append l (s ∷ in_order (k ∷ ls) ss))

module _ (ls : List (List ℕ)) (ss : List ℕ) (at i rest : ℕ) (branch_at : IsBranchAt ls at i rest) (e : length ls ≡ length ss + 1) where
  length-front : length (pairs (take i ls) (take i ss)) ≡ starts (take i ls)
  length-front =
      let n = length-take-le i ls (omega (arith, branch_at.branch)) in
      let m = length-take-le i ss (omega (arith, branch_at.branch)) in
      length-pairs (take i ls) (take i ss) (n ∙ sym m)

  read_at : get_or (in_order ls ss) at 0 ≡ get_or (get_or ls i [] ++ behind (drop (suc i) ls) (drop i ss)) rest 0
  read_at =
      let s : at ≡ length (pairs (take i ls) (take i ss)) + rest = sym branch_at.sum ∙ ap (λ n. n + rest) (sym length-front) in
      ap (λ l. get_or l at 0) (in_order_cut ls ss i branch_at.branch e) ∙ (ap (λ n. get_or (pairs (take i ls) (take i ss) ++ (get_or ls i [] ++ behind (drop (suc i) ls) (drop i ss))) n 0) s
      ∙ get_or-append-add (pairs (take i ls) (take i ss)) _ rest 0)

  pub read_branch : rest < length (get_or ls i []) → get_or (in_order ls ss) at 0 ≡ get_or (get_or ls i []) rest 0
  read_branch lt = read_at ∙ get_or_append_left (get_or ls i []) _ 0 rest lt

  pub read_own : rest ≡ length (get_or ls i []) → i < length ss → get_or (in_order ls ss) at 0 ≡ get_or ss i 0
  read_own r lt =
      let k : suc i < length ls = omega arith in
      let c = drop_more ls (suc i) [] k in
      let d = drop_more ss i 0 lt in
      read_at ∙ (rw (r, c, d) (get_or_at (get_or ls i []) (get_or ss i 0) _ 0 (length (get_or ls i [])) refl))

  -- an branch_at past all slots of the last branch is past the list
  pub own_within : rest ≡ length (get_or ls i []) → at < length (in_order ls ss) → i < length ss
  own_within r lt =
      elim (cases_lt i (length ss)) [
        | inl h ↦ h
        | inr h ↦ (
            let z = ap starts (drop_all (i + 1) ls (omega (arith, branch_at.branch))) in
            absurd (omega (arith, starts_split ls i, starts_drop ls i branch_at.branch, starts_in_order ls ss e, branch_at.sum, z))
            )
      ]

pub starts_ge : (ls : List (List ℕ)) → length ls ≤ starts ls
starts_ge [] = omega arith
starts_ge (l ∷ ls) = omega (arith, starts_ge ls)
