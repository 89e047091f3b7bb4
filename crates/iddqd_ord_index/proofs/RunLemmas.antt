-- A list that another one begins with, as both go on.
use Rattle.std.proofs.Common.{◌≡◌, ℕ, zero, suc, refl, ◌+◌, ◌-◌, ◌<◌, ◌≤◌, List, [], ◌∷◌, ◌++◌, length, take, drop, get_or, ap, sym, ◌∙◌, arith, append_assoc, length-drop}
use Rattle.std.proofs.lemmas.List.{drop_more, drop-append-le, drop-drop, take_more, get_or-take, length-take-le}
use Rattle.std.proofs.lemmas.List.Edits.{remove-append_left}
use Rattle.std.specs.List.{remove}
use Rattle.iddqd_ord_index.specs.Runs.{BeginsWith}
use Rattle.iddqd_ord_index.specs.Shape.{in_order, IsBranchAt}
use Rattle.iddqd_ord_index.proofs.EditLemmas.{own_dropped}

-- one slot on
module _ (xs old new : List ℕ) (at slot : ℕ) (within : at < length xs) (here : BeginsWith old (drop at xs)) (more : old ≡ slot ∷ new) where
  whole : get_or xs at 0 ∷ drop (at + 1) xs ≡ slot ∷ (new ++ here.0)
  whole = sym (drop_more xs at 0 within) ∙ (here.1 ∙ ap (λ l. l ++ here.0) more)

  pub next_begins : BeginsWith new (drop (at + 1) xs)
  next_begins = (here.0, ap (λ l. drop 1 l) whole)

-- the slots from one position on up to another, one further from the front, and from the back
module _ (xs : List ℕ) (next end : ℕ) (some : next < end) (fits : end ≤ length xs) where
  pub window_front : drop next (take end xs) ≡ get_or xs next 0 ∷ drop (next + 1) (take end xs)
  window_front =
      drop_more (take end xs) next 0 (omega (arith, length-take-le end xs fits))
      ∙ ap (λ s. s ∷ drop (next + 1) (take end xs)) (get_or-take end xs next 0 some)

  pub window_back : drop next (take end xs) ≡ drop next (take (end - 1) xs) ++ get_or xs (end - 1) 0 ∷ []
  window_back =
      let m : end ≡ end - 1 + 1 = omega arith in
      let last : end - 1 ≤ length xs = omega arith in
      ap (λ n. drop next (take n xs)) m
      ∙ (ap (λ l. drop next l) (take_more xs (end - 1) 0 (omega arith))
      ∙ drop-append-le next (take (end - 1) xs) (get_or xs (end - 1) 0 ∷ []) (omega (arith, length-take-le (end - 1) xs last)))

pub length-window : (xs : List ℕ) (next end : ℕ) → end ≤ length xs → length (drop next (take end xs)) ≡ end - next
length-window xs next end fits = length-drop next (take end xs) ∙ ap (λ n. n - next) (length-take-le end xs fits)

-- what a run begins with begins with it too
pub run_of : (a b c : List ℕ) → BeginsWith a b → BeginsWith b c → BeginsWith a c
run_of a b c p q = (p.0 ++ q.0, q.1 ∙ (ap (λ l. l ++ q.0) p.1 ∙ append_assoc a p.0 q.0))

-- the front part of it does
pub front_of : (a b c : List ℕ) → BeginsWith (a ++ b) c → BeginsWith a c
front_of a b c p = (b ++ p.0, p.1 ∙ append_assoc a b p.0)

-- what a run begins with, from one of its slots on
pub begins_later : (xs run : List ℕ) (base k : ℕ) → k ≤ length run → BeginsWith run (drop base xs) → BeginsWith (drop k run) (drop (base + k) xs)
begins_later xs run base k le b = (b.0, sym (drop-drop k base xs) ∙ (ap (λ l. drop k l) b.1 ∙ drop-append-le k run b.0 le))

-- a slot, and then more of what comes behind it, put behind other slots
pub slots_appended : (old mid new walk left all : List ℕ) (slot : ℕ) → BeginsWith walk all → walk ≡ slot ∷ left → mid ≡ old ++ slot ∷ [] → BeginsWith new (mid ++ left) → BeginsWith new (old ++ all)
slots_appended old mid new walk left all slot w e m q =
    let front = ap (λ l. l ++ left) m ∙ append_assoc old (slot ∷ []) left in
    let whole = ap (λ l. old ++ l) (w.1 ∙ ap (λ l. l ++ w.0) e) ∙ (sym (append_assoc old (slot ∷ left) w.0) ∙ ap (λ l. l ++ w.0) (sym front)) in
    run_of new (mid ++ left) (old ++ all) q (w.0, whole)

-- the own slot of a node at which a position stands
module _ (ls : List (List ℕ)) (ss : List ℕ) (at i rest : ℕ) (branch_at : IsBranchAt ls at i rest) (e : length ls ≡ length ss + 1) where
  pub run_own : rest ≡ length (get_or ls i []) → i < length ss → BeginsWith (take (i + 1 - i) (drop i ss)) (drop at (in_order ls ss))
  run_own r lt =
      let o = own_dropped ls ss at i rest branch_at e r lt in
      let k : i + 1 - i ≡ 1 = omega arith in
      let t : take (i + 1 - i) (drop i ss) ≡ get_or ss i 0 ∷ [] = ap (λ n. take n (drop i ss)) k ∙ ap (λ l. take 1 l) (drop_more ss i 0 lt) in
      (o.0, o.1 ∙ ap (λ l. l ++ o.0) (sym t))

-- a run of a list that loses one of the run's slots
drop-remove : (xs : List ℕ) (start k at : ℕ) → at ≡ start + k → drop start (remove xs at) ≡ remove (drop start xs) k
drop-remove xs zero k at e = ap (remove xs) (omega (arith, e))
drop-remove [] (suc start) k zero e = absurd (omega (arith, e))
drop-remove [] (suc start) zero (suc at) e = refl
drop-remove [] (suc start) (suc k) (suc at) e = refl
drop-remove (x ∷ xs) (suc start) k zero e = absurd (omega (arith, e))
drop-remove (x ∷ xs) (suc start) k (suc at) e = drop-remove xs start k at (omega (arith, e))

pub run_removed : (run xs : List ℕ) (start at : ℕ) → start ≤ at → at - start < length run → BeginsWith run (drop start xs) → BeginsWith (remove run (at - start)) (drop start (remove xs at))
run_removed run xs start at le lt b = (
  b.0,
  drop-remove xs start (at - start) at (omega arith) ∙ (ap (λ l. remove l (at - start)) b.1 ∙ remove-append_left run b.0 (at - start) lt),
)
