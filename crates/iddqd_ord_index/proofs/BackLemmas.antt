-- A walk from the back: leaves in cells with a node's own slots between them, and the front of the leaf behind them.
--     one_back, leaf_back      it goes one slot on
--     ahead_branch_at      the slots of a node up to a position, by the branch that the position lies in
--     prev_is, prev_ends      a list that ends with such a walk, one slot on
use Rattle.std.proofs.Common.{◌≡◌, ℕ, zero, suc, ◌+◌, ◌-◌, ◌<◌, ◌≤◌, List, [], ◌∷◌, ◌++◌, length, take, drop, get_or, refl, ap, sym, subst, ◌∙◌, arith, append_assoc, length-append, map, replicate, Option, Some, None}
use Rattle.std.specs.List.{All}
use Rattle.std.proofs.lemmas.List.{append-nil, drop_more, length-map, length-take-le, take_more, take_at, take-append-le, take-map}
use Rattle.std.proofs.lemmas.List.Elements.{All-take}
use Rattle.std.proofs.Math.Seq.{take-append-add, get_or-append_seam}
use Rattle.iddqd_ord_index.specs.Cells.{items_present, IsPacked}
use Rattle.iddqd_ord_index.specs.Nodes.{subtrees, AreLeaves}
use Rattle.iddqd_ord_index.specs.Runs.{EndsWith}
use Rattle.iddqd_ord_index.specs.Shape.{Subtree, behind, in_order, levels, lists, unused, IsBranch, IsBranchAt, IsForked}
use Rattle.iddqd_ord_index.proofs.BelowLemmas.{length-lists, length-subtrees}
use Rattle.iddqd_ord_index.proofs.BranchAtLemmas.{branch_at_list, branch_at_fork, branch_is}
use Rattle.iddqd_ord_index.proofs.InOrderLemmas.{pairs, length-pairs, in_order_at, in_order_cut}
use Rattle.iddqd_ord_index.proofs.LeafLemmas.{Cell, few_present, rest_of}

-- the first cells, without the empty ones
pub front_cells : {T : Type 0} (os : List (Option T)) (i : ℕ) → IsPacked os → i ≤ length (items_present os) → take i os ≡ map Some (take i (items_present os))
front_cells os i p le =
    let xs = items_present os in
    ap (take i) p.cells ∙ (take-append-le i (map Some xs) (replicate (12 - length xs) None) (omega (arith, length-map xs Some, le)) ∙ take-map Some i xs)

-- the list of a node whose last branch has the run
pub run_behind : (ls : List (List ℕ)) (run ss : List ℕ) → length ls ≡ length ss → in_order (ls ++ run ∷ []) ss ≡ pairs ls ss ++ run
run_behind ls run ss e =
    ap (in_order (ls ++ run ∷ [])) (sym (append-nil ss))
    ∙ (in_order_at ls run [] ss [] e ∙ ap (λ l. pairs ls ss ++ l) (append-nil run))

leaves_behind : (os : List Cell) (run ss : List ℕ) → AreLeaves os (length ss) → in_order (lists (subtrees os) ++ run ∷ []) ss ≡ pairs (lists (subtrees os)) ss ++ run
leaves_behind os run ss a = run_behind (lists (subtrees os)) run ss (length-lists (subtrees os) ∙ a.present)

-- the slots of the run are among them
pub run_within : (ls : List (List ℕ)) (run ss : List ℕ) → length ls ≡ length ss → length run ≤ length (in_order (ls ++ run ∷ []) ss)
run_within ls run ss e = omega (arith, ap length (run_behind ls run ss e), length-append (pairs ls ss) run)

pub one_back : (os : List Cell) (run rest ss : List ℕ) (slot : ℕ) → AreLeaves os (length ss) → run ≡ rest ++ slot ∷ []
    → in_order (lists (subtrees os) ++ run ∷ []) ss ≡ in_order (lists (subtrees os) ++ rest ∷ []) ss ++ slot ∷ []
one_back os run rest ss slot a e =
    let front = pairs (lists (subtrees os)) ss in
    leaves_behind os run ss a
    ∙ (ap (λ l. front ++ l) e
    ∙ (sym (append_assoc front rest (slot ∷ [])) ∙ ap (λ l. l ++ slot ∷ []) (sym (leaves_behind os rest ss a))))

-- the last leaf is taken up, with the slot behind it
subtrees_ahead : (os : List Cell) (n : ℕ) → length (subtrees os) ≡ length os → subtrees (take n os) ≡ take n (subtrees os)
subtrees_ahead [] zero e = refl
subtrees_ahead [] (suc n) e = refl
subtrees_ahead (o ∷ os) zero e = refl
subtrees_ahead (None ∷ os) (suc n) e = absurd (omega (arith, e, length-subtrees os, few_present os))
subtrees_ahead (Some b ∷ os) (suc n) e = ap (λ l. b ∷ l) (subtrees_ahead os n (omega (arith, e)))

pub leaves_ahead : (os : List Cell) (n m : ℕ) → AreLeaves os n → m + 1 ≡ n → AreLeaves (take m os) m
leaves_ahead os n m a e =
    let s = subtrees_ahead os m (a.present ∙ sym a.cells) in
    record {
      cells = length-take-le m os (omega (arith, a.cells));
      present = ap length s ∙ length-take-le m (subtrees os) (omega (arith, a.present));
      low = subst (All (λ t. t.height ≡ 1)) (sym s) (All-take (λ t. t.height ≡ 1) m (subtrees os) a.low);
    }

last_of : (os : List Cell) (ss : List ℕ) (slot : ℕ) → AreLeaves os (length ss + 1)
    → pairs (lists (subtrees os)) (ss ++ slot ∷ []) ≡ (pairs (lists (subtrees (take (length ss) os))) ss ++ (get_or (subtrees os) (length ss) unused).slots) ++ slot ∷ []
last_of [] ss slot a = absurd (omega (arith, a.cells))
last_of (None ∷ os) ss slot a = absurd (omega (arith, a.cells, a.present, length-subtrees os, few_present os))
last_of (Some b ∷ []) [] slot a = refl
last_of (Some b ∷ (o ∷ os)) [] slot a = absurd (omega (arith, a.cells))
last_of (Some b ∷ os) (s ∷ ss) slot a =
    let n : length (s ∷ ss) + 1 ≡ length ss + 1 + 1 = omega arith in
    let left = rest_of (Some b ∷ os) (length ss + 1) (subst (AreLeaves (Some b ∷ os)) n a) in
    let front = pairs (lists (subtrees (take (length ss) os))) ss in
    let leaf = (get_or (subtrees os) (length ss) unused).slots in
    ap (λ l. b.slots ++ s ∷ l) (last_of os ss slot left)
    ∙ (sym (append_assoc b.slots (s ∷ (front ++ leaf)) (slot ∷ []))
    ∙ ap (λ l. l ++ slot ∷ []) (sym (append_assoc b.slots (s ∷ front) leaf)))

pub leaf_back : (os : List Cell) (run all ss : List ℕ) (slot : ℕ) → AreLeaves os (length all) → run ≡ [] → all ≡ ss ++ slot ∷ []
    → in_order (lists (subtrees os) ++ run ∷ []) all ≡ in_order (lists (subtrees (take (length ss) os)) ++ (get_or (subtrees os) (length ss) unused).slots ∷ []) ss ++ slot ∷ []
leaf_back os run all ss slot a r e =
    let k : length all ≡ length ss + 1 = omega (arith, ap length e, length-append ss (slot ∷ [])) in
    let front = pairs (lists (subtrees os)) all in
    let leaf = (get_or (subtrees os) (length ss) unused).slots in
    leaves_behind os run all a
    ∙ (ap (λ l. front ++ l) r
    ∙ (append-nil front
    ∙ (ap (pairs (lists (subtrees os))) e
    ∙ (last_of os ss slot (subst (AreLeaves os) k a)
    ∙ ap (λ l. l ++ slot ∷ []) (sym (leaves_behind (take (length ss) os) leaf ss (leaves_ahead os (length all) (length ss) a (sym k))))))))

-- the slots up to a position in the i-th branch
taken : (ls : List (List ℕ)) (ss : List ℕ) (at i rest : ℕ) → IsBranchAt ls at i rest → length ls ≡ length ss + 1 → rest < length (get_or ls i [])
    → take (at + 1) (in_order ls ss) ≡ pairs (take i ls) (take i ss) ++ take (rest + 1) (get_or ls i [])
taken ls ss at i rest b e lt =
    let front = pairs (take i ls) (take i ss) in
    let branch = get_or ls i [] in
    let after = behind (drop (suc i) ls) (drop i ss) in
    let n = length-take-le i ls (omega (arith, b.branch)) in
    let m = length-take-le i ss (omega (arith, b.branch)) in
    let f = length-pairs (take i ls) (take i ss) (n ∙ sym m) in
    let k : at + 1 ≡ length front + (rest + 1) = omega (arith, b.sum, f) in
    ap (λ j. take j (in_order ls ss)) k
    ∙ (ap (take (length front + (rest + 1))) (in_order_cut ls ss i b.branch e)
    ∙ (take-append-add front (branch ++ after) (rest + 1)
    ∙ ap (λ l. front ++ l) (take-append-le (rest + 1) branch after (omega (arith, lt)))))

pub ahead_branch_at : (ts us : List Subtree) (ss os child : List ℕ) (at i rest : ℕ) → IsForked ts ss → IsBranchAt (lists ts) at i rest
    → child ≡ (get_or ts i unused).slots → rest < length child → us ≡ take i ts → os ≡ take i ss
    → take (at + 1) (in_order (lists ts) ss) ≡ in_order (lists us ++ take (rest + 1) child ∷ []) os
ahead_branch_at ts us ss os child at i rest f branch_at c lt u o =
    let ls = lists ts in
    let e = branch_at_fork ts ss at i rest f branch_at in
    let l : get_or ls i [] ≡ child = branch_at_list ts ss at i rest f branch_at ∙ sym c in
    let d : take i ls ≡ lists us = take-map (λ t. t.slots) i ts ∙ ap lists (sym u) in
    let n : length (lists us) ≡ i = ap length (sym d) ∙ length-take-le i ls (omega (arith, branch_at.branch)) in
    let m : length os ≡ i = ap length o ∙ length-take-le i ss (omega (arith, branch_at.branch, e)) in
    taken ls ss at i rest branch_at e (omega (arith, ap length l, lt))
    ∙ (ap (λ x. pairs (take i ls) (take i ss) ++ take (rest + 1) x) l
    ∙ (ap (λ x. pairs x (take i ss) ++ take (rest + 1) child) d
    ∙ (ap (λ x. pairs (lists us) x ++ take (rest + 1) child) (sym o)
    ∙ sym (run_behind (lists us) (take (rest + 1) child) os (n ∙ sym m)))))

-- the branches before one are as high as it
pub heights_ahead : (ts : List Subtree) (ss : List ℕ) → IsForked ts ss → (i : ℕ) → i < length ts → (child : Subtree) → child ≡ get_or ts i unused → All (λ t. t.height ≡ child.height) (take i ts)
heights_ahead ts ss f i lt child e =
    All-take (λ t. t.height ≡ child.height) i ts
    (λ k d within.
    let b = branch_is ts ss f i lt in
    let o : IsBranch (levels ts) (get_or ts k d) = f.branches k d within in
    omega (arith, b.height, o.height, ap (λ t. t.height) e))

-- the own slot of a node at which a position stands
pub own_ends : (xs ss : List ℕ) (at i : ℕ) → at < length xs → i < length ss → get_or xs at 0 ≡ get_or ss i 0 → EndsWith (take (i + 1 - i) (drop i ss)) (take (at + 1) xs)
own_ends xs ss at i within lt e =
    let k : i + 1 - i ≡ 1 = omega arith in
    let t : take (i + 1 - i) (drop i ss) ≡ get_or ss i 0 ∷ [] = ap (λ n. take n (drop i ss)) k ∙ ap (take 1) (drop_more ss i 0 lt) in
    (take at xs, take_more xs at 0 within ∙ ap (λ l. take at xs ++ l) (ap (λ s. s ∷ []) e ∙ sym t))

-- what such a list ends with ends with it too
pub ends_of : (a b c : List ℕ) → EndsWith a b → EndsWith b c → EndsWith a c
ends_of a b c p q = (q.0 ++ p.0, q.1 ∙ (ap (λ l. q.0 ++ l) p.1 ∙ sym (append_assoc q.0 p.0 a)))

-- the run does
pub run_ends : (ls : List (List ℕ)) (run ss all : List ℕ) → length ls ≡ length ss → EndsWith (in_order (ls ++ run ∷ []) ss) all → EndsWith run all
run_ends ls run ss all e p = ends_of run (in_order (ls ++ run ∷ []) ss) all (pairs ls ss, run_behind ls run ss e) p

pub none_ends : (run all : List ℕ) → run ≡ [] → EndsWith run all
none_ends run all e = (all, sym (ap (λ l. all ++ l) e ∙ append-nil all))

-- one slot on
module _ (xs old new : List ℕ) (at slot : ℕ) (within : at < length xs) (here : EndsWith old (take (at + 1) xs)) (more : old ≡ new ++ slot ∷ []) where
  whole : take at xs ++ get_or xs at 0 ∷ [] ≡ (here.0 ++ new) ++ slot ∷ []
  whole = sym (take_more xs at 0 within) ∙ (here.1 ∙ (ap (λ l. here.0 ++ l) more ∙ sym (append_assoc here.0 new (slot ∷ []))))

  lengths : length (take at xs) ≡ length (here.0 ++ new)
  lengths = omega (arith, ap length whole, length-append (take at xs) (get_or xs at 0 ∷ []), length-append (here.0 ++ new) (slot ∷ []))

  pub prev_ends : EndsWith new (take at xs)
  prev_ends = (
    here.0,
    sym (take_at (take at xs) (get_or xs at 0 ∷ []) (length (take at xs)) refl)
        ∙ (ap (take (length (take at xs))) whole ∙ take_at (here.0 ++ new) (slot ∷ []) (length (take at xs)) (sym lengths)),
  )

  pub prev_is : slot ≡ get_or xs at 0
  prev_is =
      sym (get_or-append_seam (here.0 ++ new) slot [] 0)
      ∙ (ap (λ n. get_or ((here.0 ++ new) ++ slot ∷ []) n 0) (sym lengths)
      ∙ (ap (λ l. get_or l (length (take at xs)) 0) (sym whole) ∙ get_or-append_seam (take at xs) (get_or xs at 0) [] 0))
