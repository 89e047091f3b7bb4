-- A search in a node's own slots, and on in one of its branches.
use Rattle.std.proofs.Common.{◌≡◌, ℕ, ◌+◌, ◌-◌, ◌<◌, ◌≤◌, List, [], ◌++◌, length, take, drop, get_or, refl, ap, sym, ◌∙◌, arith, subst, length-append, Ok, Err}
use Rattle.std.specs.declared.cmp.Ordering.{Ordering}
use Rattle.std.specs.declared.cmp.Ordering.TheVariants.{Equal}
use Rattle.std.specs.List.{All}
use Rattle.std.proofs.lemmas.List.{drop-append-le, take_rest}
use Rattle.iddqd_ord_index.specs.Digits.{digits}
use Rattle.iddqd_ord_index.specs.Runs.{BeginsWith}
use Rattle.iddqd_ord_index.specs.Shape.{Subtree, tree, behind, in_order, starts, lists, levels, unused, IsBranch, IsBranchAt, IsForked}
use Rattle.iddqd_ord_index.specs.Standing.{IsMonotone, IsPart, IsPlace}
use Rattle.iddqd_ord_index.proofs.BranchAtLemmas.{fork_is, starts_is, branch_is, leaf_list}
use Rattle.iddqd_ord_index.proofs.BelowLemmas.{length-lists, list_at}
use Rattle.iddqd_ord_index.proofs.DigitLemmas.{digits_least}
use Rattle.iddqd_ord_index.proofs.InOrderLemmas.{starts_drop, starts_split, starts_take}
use Rattle.iddqd_ord_index.proofs.LeafLemmas.{below_branch_at}
use Rattle.iddqd_ord_index.proofs.RunLemmas.{begins_later, front_of, run_of, run_own}
use Rattle.iddqd_ord_index.proofs.FoundLemmas.{part_all, part_mono, own_all, own_mono, own_read, own_place, own_end, own_some, branch_part, branch_end, found_place, missed_front, missed_back}

pub digits_four : (n : ℕ) → n ≤ 11 → digits n ≤ 4
digits_four n le = digits_least 4 n (omega arith)

-- what is known at an inner node on the way down
pub record IsInner (order : ℕ → Ordering) (P : ℕ → Type 0) (xs : List ℕ) (ts : List Subtree) (ss : List ℕ) (base : ℕ) : Type 0 where
  pub monotone : IsMonotone order ss
  pub all : All P ss
  pub room : starts (lists ts) ≤ length xs + 1
  pub own_room : (i : ℕ) → i < length ss → base + starts (take (i + 1) (lists ts)) ≤ length xs
  pub own_some : (i : ℕ) → i < length ss → 1 ≤ starts (take (i + 1) (lists ts))
  pub own : (i p : ℕ) → i < length ss → order (get_or ss i 0) ≡ Equal → p + 1 ≡ base + starts (take (i + 1) (lists ts)) → (p < length xs) × (order (get_or xs p 0) ≡ Equal) × (get_or xs p 0 ≡ get_or ss i 0)
  pub down_room : (i : ℕ) → i ≤ length ss → base + starts (take i (lists ts)) ≤ length xs
  pub down : (i start : ℕ) (child : Subtree) → IsPlace order ss (Err i) → start ≡ starts (take i (lists ts)) → child ≡ get_or ts i unused → IsPart order xs child.slots (base + start)
  pub branch : (i : ℕ) → i ≤ length ss → (i < length ts) × IsBranch (levels ts) (get_or ts i unused)

pub inner : (order : ℕ → Ordering) (P : ℕ → Type 0) (xs : List ℕ) (ts : List Subtree) (ss : List ℕ) (base : ℕ) (self : Subtree) → IsMonotone order xs → All P xs → IsForked ts ss → 0 < length ts → tree ts ss ≡ self → IsPart order xs self.slots base → IsInner order P xs ts ss base
inner order P xs ts ss base self m a f some v q =
    let e = fork_is ts ss f some in
    let p : IsPart order xs (in_order (lists ts) ss) base = subst (λ t. IsPart order xs t.slots base) (sym v) q in
    record {
      monotone = own_mono order xs (lists ts) ss base m p e;
      all = own_all order xs (lists ts) ss base m p e P a;
      room = omega (arith, starts_is ts ss f some, p.fits);
      own_room = λ i lt. own_end order xs (lists ts) ss base m p e i lt;
      own_some = λ i lt. own_some order xs (lists ts) ss base m p e i lt;
      own = λ i n lt g k. own_found i n lt g k;
      down_room = λ i le. branch_end order xs (lists ts) ss base m p e i le;
      down = λ i start child h s c. (
          let list : get_or (lists ts) i [] ≡ child.slots = list_at ts i (omega (arith, h.0, f.fork some)) ∙ ap (λ t. t.slots) (sym c) in
          subst (λ l. IsPart order xs l (base + start)) list (subst (λ n. IsPart order xs (get_or (lists ts) i []) (base + n)) (sym s) (branch_part order xs (lists ts) ss base m p e i h.0 h.1 h.2))
          );
      branch = λ i le. (omega (arith, f.fork some), branch_is ts ss f i (omega (arith, f.fork some)));
    }
  where
    own_found : (i n : ℕ) → i < length ss → order (get_or ss i 0) ≡ Equal → n + 1 ≡ base + starts (take (i + 1) (lists ts)) → (n < length xs) × (order (get_or xs n 0) ≡ Equal) × (get_or xs n 0 ≡ get_or ss i 0)
    own_found i n lt g k =
        let e = fork_is ts ss f some in
        let p : IsPart order xs (in_order (lists ts) ss) base = subst (λ t. IsPart order xs t.slots base) (sym v) q in
        let o = own_place order xs (lists ts) ss base m p e i n lt g k in
        (o.0, o.1, own_read order xs (lists ts) ss base m p e i n lt k)

-- what is known at the leaf
pub record IsLeaf (order : ℕ → Ordering) (P : ℕ → Type 0) (xs ss : List ℕ) (base : ℕ) : Type 0 where
  pub monotone : IsMonotone order ss
  pub all : All P ss
  pub fits : base + length ss ≤ length xs
  pub found : (i : ℕ) → IsPlace order ss (Ok i) → IsPlace order xs (Ok (base + i))
  pub same : (i : ℕ) → i < length ss → get_or xs (base + i) 0 ≡ get_or ss i 0
  pub missed : (i : ℕ) → IsPlace order ss (Err i) → IsPlace order xs (Err (base + i))

pub leaf : (order : ℕ → Ordering) (P : ℕ → Type 0) (xs : List ℕ) (ts : List Subtree) (ss : List ℕ) (base : ℕ) (self : Subtree) → IsMonotone order xs → All P xs → length ts ≡ 0 → tree ts ss ≡ self → IsPart order xs self.slots base → IsLeaf order P xs ss base
leaf order P xs ts ss base self m a none v q =
    let p : IsPart order xs ss base = subst (λ l. IsPart order xs l base) (leaf_list ts ss none) (subst (λ t. IsPart order xs t.slots base) (sym v) q) in
    record {
      monotone = part_mono order xs ss base m p;
      all = part_all order P xs ss base a p;
      fits = p.fits;
      found = λ i h. found_place order xs ss base p i h.0 h.1;
      same = p.same;
      missed = λ i h. (omega (arith, h.0, p.fits), λ k lt. missed_front order xs ss base p i k h.0 h.1 lt, λ k le lt. missed_back order xs ss base p i k h.0 h.2 le lt);
    }

-- the walk from where a search has come to, where that from its node on is known
module _ (xs : List ℕ) (base : ℕ) (ts : List Subtree) (ss more : List ℕ) (self : Subtree) (v : tree ts ss ≡ self) (here : BeginsWith (self.slots ++ more) (drop base xs)) where
  from_position : (at : ℕ) → at ≤ length (in_order (lists ts) ss) → BeginsWith (drop at (in_order (lists ts) ss)) (drop (base + at) xs)
  from_position at le =
      begins_later xs (in_order (lists ts) ss) base at le (front_of (in_order (lists ts) ss) more (drop base xs) (subst (λ t. BeginsWith (t.slots ++ more) (drop base xs)) (sym v) here))

  module _ (f : IsForked ts ss) (some : 0 < length ts) (i : ℕ) (lt : i < length ts) where
    pub branch_begins : (us : List Subtree) (os : List ℕ) (child : Subtree) (start : ℕ) → start ≡ starts (take i (lists ts)) → child ≡ get_or ts i unused → us ≡ drop (i + 1) ts → os ≡ drop i ss
        → BeginsWith (child.slots ++ behind (lists us) os) (drop (base + start) xs)
    branch_begins us os child start s c u o =
        let k = length-lists ts in
        let branch_at : IsBranchAt (lists ts) start i 0 = record { branch = omega arith; within = omega arith; sum = omega (arith, s) } in
        let le : start ≤ length (in_order (lists ts) ss) = omega (arith, s, starts_split (lists ts) i, starts_drop (lists ts) i (omega arith), starts_is ts ss f some) in
        subst (λ l. BeginsWith l (drop (base + start) xs)) (below_branch_at ts us ss os child.slots start i 0 f branch_at (ap (λ t. t.slots) c) u o) (from_position start le)

    pub own_begins : (own : List ℕ) (p : ℕ) → own ≡ ss → i < length ss → p + 1 ≡ base + starts (take (i + 1) (lists ts)) → BeginsWith (take (i + 1 - i) (drop i own)) (drop p xs)
    own_begins own p o in' e =
        let ls = lists ts in
        let k = length-lists ts in
        let n = length (get_or ls i []) in
        let at = starts (take i ls) + n in
        let branch_at : IsBranchAt ls at i n = record { branch = omega arith; within = omega arith; sum = refl } in
        let le : at ≤ length (in_order ls ss) = omega (arith, starts_split ls (i + 1), starts_take ls i (omega arith), starts_is ts ss f some) in
        let is : base + at ≡ p = omega (arith, e, starts_take ls i (omega arith)) in
        let run = run_own ls ss at i n branch_at (fork_is ts ss f some) refl in' in
        subst (λ l. BeginsWith (take (i + 1 - i) (drop i l)) (drop p xs)) (sym o) (run_of (take (i + 1 - i) (drop i ss)) (drop at (in_order ls ss)) (drop p xs) run (subst (λ q. BeginsWith (drop at (in_order ls ss)) (drop q xs)) is (from_position at le)))

  pub leaf_begins : length ts ≡ 0 → (own : List ℕ) (i : ℕ) → own ≡ ss → i ≤ length own → BeginsWith (take (length own - i) (drop i own) ++ more) (drop (base + i) xs)
  leaf_begins none own i o le =
      let list : self.slots ≡ own = ap (λ t. t.slots) (sym v) ∙ (leaf_list ts ss none ∙ sym o) in
      let rest : drop i (own ++ more) ≡ take (length own - i) (drop i own) ++ more = drop-append-le i own more le ∙ ap (λ l. l ++ more) (sym (take_rest own i)) in
      subst (λ l. BeginsWith l (drop (base + i) xs)) rest (begins_later xs (own ++ more) base i (omega (arith, length-append own more)) (subst (λ l. BeginsWith (l ++ more) (drop base xs)) list here))
