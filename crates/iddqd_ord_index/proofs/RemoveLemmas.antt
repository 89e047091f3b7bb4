-- A node of which a branch lost a slot.
use Rattle.std.proofs.Common.{◌≡◌, ℕ, suc, ◌+◌, ◌^◌, ◌-◌, ◌<◌, ◌≤◌, Bool, true, false, List, [], ◌∷◌, ◌++◌, length, take, drop, set, get_or, refl, ap, sym, ◌∙◌, inl, inr, subst, arith, append_assoc, length-set, min, ltb, Some}
use Rattle.std.specs.Bool.{if◌then◌else◌}
use Rattle.std.specs.List.{remove}
use Rattle.std.proofs.lemmas.Bool.{cases_lt, ltb-false}
use Rattle.std.proofs.lemmas.List.{append-nil, take-append-drop, drop_all, drop_more, take-set, drop-set-lt, get_or-set_same, get_or-set_other, length-take-le, map-set}
use Rattle.std.proofs.lemmas.List.Edits.{length-remove, remove-append_left, remove-append_right}
use Rattle.iddqd_ord_index.specs.Changes.{GivesBack, Stock}
use Rattle.iddqd_ord_index.specs.Neighbours.{IsGivenBack, IsNear, IsShort, MayGiveBack}
use Rattle.iddqd_ord_index.specs.Nodes.{below, AreBranches, counts_of, nodes_of}
use Rattle.iddqd_ord_index.specs.Shape.{Subtree, behind, in_order, starts, lists, levels, tree, unused, IsBranchAt, IsForked, IsBranch, IsDense}
use Rattle.iddqd_ord_index.specs.declared.tree.node.Branches.{Branches}
use Rattle.iddqd_ord_index.specs.declared.tree.node.Node.{Node}
use Rattle.iddqd_ord_index.proofs.BelowLemmas.{branches_put, length-lists}
use Rattle.iddqd_ord_index.proofs.BranchAtLemmas.{branch_at_in, branch_at_list, branch_at_fork, branch_is}
use Rattle.iddqd_ord_index.proofs.DenseLemmas.{branch_some}
use Rattle.iddqd_ord_index.proofs.EditLemmas.{levels_set}
use Rattle.iddqd_ord_index.proofs.InOrderLemmas.{pairs, length-pairs, in_order_cut, read_branch, read_own, own_within, starts_in_order}

-- a list and its last element
last_cut : (k : List ℕ) (m : ℕ) → m + 1 ≡ length k → k ≡ remove k m ++ get_or k m 0 ∷ []
last_cut k m e =
    let z : drop (suc m) k ≡ [] = drop_all (suc m) k (omega arith) in
    let d : drop m k ≡ get_or k m 0 ∷ [] = drop_more k m 0 (omega arith) ∙ ap (λ l. get_or k m 0 ∷ l) (drop_all (m + 1) k (omega arith)) in
    let r : remove k m ≡ take m k = ap (λ l. take m k ++ l) z ∙ append-nil (take m k) in
    sym (take-append-drop m k) ∙ (ap (λ l. take m k ++ l) d ∙ ap (λ l. l ++ get_or k m 0 ∷ []) (sym r))

module _ (ls : List (List ℕ)) (ss : List ℕ) (at i rest : ℕ) (branch_at : IsBranchAt ls at i rest) (e : length ls ≡ length ss + 1) where
  abbrev before : List ℕ
  before = pairs (take i ls) (take i ss)

  abbrev after : List ℕ
  after = behind (drop (suc i) ls) (drop i ss)

  length-before : length before ≡ starts (take i ls)
  length-before = length-pairs (take i ls) (take i ss) (length-take-le i ls (omega (arith, branch_at.branch)) ∙ sym (length-take-le i ss (omega (arith, branch_at.branch))))

  -- the list with a slot less
  removed : remove (in_order ls ss) at ≡ before ++ remove (get_or ls i [] ++ after) rest
  removed =
      let n = length-before in
      let k : at - length before ≡ rest = omega (arith, branch_at.sum) in
      ap (λ l. remove l at) (in_order_cut ls ss i branch_at.branch e)
      ∙ (remove-append_right before (get_or ls i [] ++ after) (length before) at refl (omega (arith, branch_at.sum))
      ∙ ap (λ j. before ++ remove (get_or ls i [] ++ after) j) k)

  branch_shrunk : (new : List ℕ) → rest < length (get_or ls i []) → new ≡ remove (get_or ls i []) rest → in_order (set ls i new) ss ≡ remove (in_order ls ss) at
  branch_shrunk new lt h =
      let n = length-set ls i new in
      let c = in_order_cut (set ls i new) ss i (omega (arith, branch_at.branch)) (n ∙ e) in
      c ∙ (rw (take-set ls i new, get_or-set_same ls i new [] branch_at.branch, drop-set-lt (suc i) ls i new (omega arith), h)
      (ap (λ l. before ++ l) (sym (remove-append_left (get_or ls i []) after rest lt)) ∙ sym removed))

  -- the own slot behind the branch is replaced by the branch's last one
  own_replaced : (new : List ℕ) (last : ℕ) → rest ≡ length (get_or ls i []) → i < length ss → get_or ls i [] ≡ new ++ last ∷ []
      → in_order (set ls i new) (set ss i last) ≡ remove (in_order ls ss) at
  own_replaced new last r lt h =
      let n = length-set ls i new in
      let m = length-set ss i last in
      let q : suc i < length ls = omega arith in
      let back : List ℕ = get_or ls (suc i) [] ++ behind (drop (suc i + 1) ls) (drop (i + 1) ss) in
      let dl : drop (suc i) ls ≡ get_or ls (suc i) [] ∷ drop (suc i + 1) ls = drop_more ls (suc i) [] q in
      let ds : drop i ss ≡ get_or ss i 0 ∷ drop (i + 1) ss = drop_more ss i 0 lt in
      let dt : drop i (set ss i last) ≡ last ∷ drop (i + 1) ss =
      drop_more (set ss i last) i 0 (omega arith)
      ∙ (ap (λ x. x ∷ drop (i + 1) (set ss i last)) (get_or-set_same ss i last 0 lt) ∙ ap (λ l. last ∷ l) (drop-set-lt (i + 1) ss i last (omega arith))) in
      let b : after ≡ get_or ss i 0 ∷ back = ap (λ l. behind l (drop i ss)) dl ∙ ap (λ l. behind (get_or ls (suc i) [] ∷ drop (suc i + 1) ls) l) ds in
      let f : behind (drop (suc i) ls) (drop i (set ss i last)) ≡ last ∷ back = ap (λ l. behind l (drop i (set ss i last))) dl ∙ ap (λ l. behind (get_or ls (suc i) [] ∷ drop (suc i + 1) ls) l) dt in
      let k : rest - length (get_or ls i []) ≡ 0 = omega arith in
      let x : remove (get_or ls i [] ++ after) rest ≡ get_or ls i [] ++ back =
      ap (λ l. remove (get_or ls i [] ++ l) rest) b
      ∙ (remove-append_right (get_or ls i []) (get_or ss i 0 ∷ back) (length (get_or ls i [])) rest refl (omega arith)
      ∙ ap (λ j. get_or ls i [] ++ remove (get_or ss i 0 ∷ back) j) k) in
      in_order_cut (set ls i new) (set ss i last) i (omega (arith, branch_at.branch)) (n ∙ (e ∙ ap (λ j. j + 1) (sym m)))
      ∙ (rw (take-set ls i new, take-set ss i last, get_or-set_same ls i new [] branch_at.branch, drop-set-lt (suc i) ls i new (omega arith))
      (ap (λ l. before ++ (new ++ l)) f
      ∙ (ap (λ l. before ++ l) (sym (append_assoc new (last ∷ []) back))
      ∙ (ap (λ l. before ++ (l ++ back)) (sym h) ∙ (ap (λ l. before ++ l) (sym x) ∙ sym removed)))))

  -- both cases: the slot that leaves, and the list that stays
  pub left_list : (k new : List ℕ) (taken slot : ℕ) (ss' : List ℕ) → get_or ls i [] ≡ k → at < length (in_order ls ss) → 0 < length k
      → taken ≡ get_or k (min rest (length k - 1)) 0 → new ≡ remove k (min rest (length k - 1))
      → (rest < length k → (slot ≡ taken) × (ss' ≡ ss)) → (rest ≡ length k → (slot ≡ get_or ss i 0) × (ss' ≡ set ss i taken))
      → (in_order (set ls i new) ss' ≡ remove (in_order ls ss) at) × (slot ≡ get_or (in_order ls ss) at 0)
  left_list k new taken slot ss' g lt some t n below own =
      let l = ap length g in
      elim (cases_lt rest (length k)) [
        | inl h ↦ (
            let m : min rest (length k - 1) ≡ rest = omega arith in
            let b = below h in
            let q : rest < length (get_or ls i []) = omega arith in (
              ap (λ s. in_order (set ls i new) s) b.1 ∙ branch_shrunk new q (n ∙ (ap (λ j. remove k j) m ∙ ap (λ x. remove x rest) (sym g))),
              b.0 ∙ (t ∙ (ap (λ j. get_or k j 0) m ∙ (ap (λ x. get_or x rest 0) (sym g) ∙ sym (read_branch ls ss at i rest branch_at e q)))),
            )
            )
        | inr h ↦ (
            let w = branch_at.within in
            let r : rest ≡ length k = omega arith in
            let r' : rest ≡ length (get_or ls i []) = omega arith in
            let m : min rest (length k - 1) ≡ length k - 1 = omega arith in
            let o = own r in
            let w = own_within ls ss at i rest branch_at e r' lt in
            let c : k ≡ remove k (length k - 1) ++ get_or k (length k - 1) 0 ∷ [] = last_cut k (length k - 1) (omega arith) in
            let d : get_or ls i [] ≡ new ++ taken ∷ [] = g ∙ (c ∙ (ap (λ x. x ++ get_or k (length k - 1) 0 ∷ []) (sym (n ∙ ap (λ j. remove k j) m)) ∙ ap (λ y. new ++ y ∷ []) (sym (t ∙ ap (λ j. get_or k j 0) m)))) in (
              ap (λ s. in_order (set ls i new) s) o.1 ∙ own_replaced new taken r' w d,
              o.0 ∙ sym (read_own ls ss at i rest branch_at e r' w),
            )
            )
      ]

-- a branch that lost a slot is in its place again
pub record IsShrunk (ts us : List Subtree) (ss' : List ℕ) (i : ℕ) (all left : List ℕ) (slot at : ℕ) : Type 0 where
  pub near : IsNear us ss' i
  pub height : levels us ≡ levels ts
  pub list : in_order (lists us) ss' ≡ left
  pub value : slot ≡ get_or all at 0

module _ (ts : List Subtree) (ss ss' : List ℕ) (at i rest taken slot : ℕ) (new : Subtree) (f : IsForked ts ss) (branch_at : IsBranchAt (lists ts) at i rest) (some : 0 < length ss) (same : length ss' ≡ length ss) (within : at < length (in_order (lists ts) ss)) where
  place : i < length ts
  place = branch_at_in ts ss at i rest f branch_at

  pub shrunk : new.height ≡ (get_or ts i unused).height → (get_or ts i unused).width ≤ new.width + 1 → IsDense new → 0 < length (get_or ts i unused).slots
      → taken ≡ get_or (get_or ts i unused).slots (min rest (length (get_or ts i unused).slots - 1)) 0 → new.slots ≡ remove (get_or ts i unused).slots (min rest (length (get_or ts i unused).slots - 1))
      → (rest < length (get_or ts i unused).slots → (slot ≡ taken) × (ss' ≡ ss)) → (rest ≡ length (get_or ts i unused).slots → (slot ≡ get_or ss i 0) × (ss' ≡ set ss i taken))
      → IsShrunk ts (set ts i new) ss' i (in_order (lists ts) ss) (remove (in_order (lists ts) ss) at) slot at
  shrunk h w d full t n below own =
      let b = branch_is ts ss f i place in
      let e = branch_at_fork ts ss at i rest f branch_at in
      let l = branch_at_list ts ss at i rest f branch_at in
      let r = left_list (lists ts) ss at i rest branch_at e (get_or ts i unused).slots new.slots taken slot ss' l within full t n below own in
      let v = levels_set ts i new (omega (arith, b.height)) in
      let s : IsShort (levels ts) new = record { height = omega (arith, b.height); wide = omega (arith, b.wide); dense = d } in
      let m = length-set ts i new in
      let k = f.fork (omega (arith, place)) in
      record {
        near = record {
          branch = omega (arith, place);
          fork = omega arith;
          some = omega arith;
          short = subst (λ h. IsShort h (get_or (set ts i new) i unused)) (sym v) (subst (λ x. IsShort (levels ts) x) (sym (get_or-set_same ts i new unused place)) s);
          others = λ k lt ne. subst (λ h. IsBranch h (get_or (set ts i new) k unused)) (sym v) (subst (λ x. IsBranch (levels ts) x) (sym (get_or-set_other ts i k new unused ne)) (f.branches k unused (omega arith)));
        };
        height = v;
        list = ap (λ l. in_order l ss') (map-set (λ t. t.slots) ts i new) ∙ r.0;
        value = r.1;
      }

-- a branch has a slot
pub some_below : (ts : List Subtree) (ss : List ℕ) (at i rest : ℕ) → IsForked ts ss → IsBranchAt (lists ts) at i rest → 0 < length (get_or ts i unused).slots
some_below ts ss at i rest f branch_at = branch_some (levels ts) (get_or ts i unused) (branch_is ts ss f i (branch_at_in ts ss at i rest f branch_at))

-- the branch put back, with all that is known of it then
pub put_shrunk : (old new : Branches) (ss ss' : List ℕ) (at i rest count taken slot least : ℕ) (b : Node) (before self : Subtree)
    → AreBranches old → IsForked (below old) ss → IsBranchAt (lists (below old)) at i rest → before ≡ get_or (below old) i unused → count ≡ length (get_or (below old) i unused).slots
    → (1 < self.height → 0 < self.width) → at < length self.slots → least ≡ min rest (count - 1)
    → taken ≡ get_or before.slots least 0 → b.slots ≡ remove before.slots least → b.height ≡ before.height → before.width ≤ b.width + 1 → IsDense b
    → (rest < count → (slot ≡ taken) × (ss' ≡ ss)) → (rest ≡ count → (slot ≡ get_or ss i 0) × (ss' ≡ set ss i taken)) → length ss' ≡ length ss
    → (nodes_of new) ≡ set (nodes_of old) i (Some b) → (counts_of new) ≡ set (counts_of old) i (count - 1) → tree (below old) ss ≡ self
    → AreBranches new × IsShrunk (below old) (below new) ss' i self.slots (remove self.slots at) slot at × ((get_or (below new) i unused).width ≡ b.width)
put_shrunk old new ss ss' at i rest count taken slot least b before self a f branch_at v c some lt m t n h w d bel own same nodes counts view =
    let ts = below old in
    let p = branch_at_in ts ss at i rest f branch_at in
    let k = branch_is ts ss f i p in
    let full = some_below ts ss at i rest f branch_at in
    let e : least ≡ min rest (length (get_or ts i unused).slots - 1) = m ∙ ap (λ n. min rest (n - 1)) c in
    let t' : taken ≡ get_or (get_or ts i unused).slots (min rest (length (get_or ts i unused).slots - 1)) 0 = t ∙ (ap (λ t. get_or t.slots least 0) v ∙ ap (λ j. get_or (get_or ts i unused).slots j 0) e) in
    let n' : b.slots ≡ remove (get_or ts i unused).slots (min rest (length (get_or ts i unused).slots - 1)) = n ∙ (ap (λ t. remove t.slots least) v ∙ ap (λ j. remove (get_or ts i unused).slots j) e) in
    let z = ap (λ t. t.width) v in
    let r = shrunk ts ss ss' at i rest taken slot b f branch_at (omega (arith, some (omega (arith, k.height, k.dense.low, ap (λ t. t.height) view)), ap (λ t. t.width) view)) same (omega (arith, ap (λ t. length t.slots) view))
    (h ∙ ap (λ t. t.height) v) (omega arith) d full t' n' (λ x. bel (omega arith)) (λ x. own (omega arith)) in
    let q = branches_put old new i (count - 1) b a p nodes counts (omega (arith, ap length n', length-remove (get_or ts i unused).slots (min rest (length (get_or ts i unused).slots - 1)) (omega arith))) in (
      q.0,
      subst (λ x. IsShrunk ts (below new) ss' i x.slots (remove x.slots at) slot at) view (subst (λ us. IsShrunk ts us ss' i (in_order (lists ts) ss) (remove (in_order (lists ts) ss) at) slot at) (sym q.1) r),
      ap (λ us. (get_or us i unused).width) q.1 ∙ ap (λ x. x.width) (get_or-set_same ts i b unused p),
    )

-- the unused ones after a rebalance that may have merged
pub given_or_kept : (h : ℕ) (old new : Stock) (n m : ℕ) → m ≤ n → (m ≡ n → new ≡ old) → (m < n → MayGiveBack h old new) → (old.count ≤ new.count) × (new.wanted ≡ old.wanted) × (new.room ≡ old.room)
given_or_kept h old new n m le kept given =
    elim (cases_lt m n) [
      | inl lt ↦ (let e = given lt in (e.kept, e.wanted, e.room))
      | inr ge ↦ (let e = kept (omega arith) in (omega (arith, ap (λ s. s.count) e), ap (λ s. s.wanted) e, ap (λ s. s.room) e))
    ]

-- the same after a removal below
pub kept_below : (h : ℕ) (first old new : Stock) (n m : ℕ) → first.count ≤ old.count → (old.wanted ≡ first.wanted) × (old.room ≡ first.room) → m ≤ n → (m ≡ n → new ≡ old) → (m < n → MayGiveBack h old new)
    → (first.count ≤ new.count) × ((new.wanted ≡ first.wanted) × (new.room ≡ first.room))
kept_below h first old new n m more same le kept given =
    let g = given_or_kept h old new n m le kept given in
    (omega arith, (g.1 ∙ same.0, g.2 ∙ same.1))

-- if one more is given back, after this many that are kept as long as they are wanted, one more is kept
one_more_back : (old new : Stock) (many : ℕ) → IsGivenBack old new → min many old.wanted ≤ old.count → min (many + 1) old.wanted ≤ new.count
one_more_back old new many e enough =
    subst (λ n. min (many + 1) old.wanted ≤ n) (sym e.count) (by (ltb old.count old.wanted) refl)
  where
    by : (b : Bool) → ltb old.count old.wanted ≡ b → min (many + 1) old.wanted ≤ (if b then old.count + 1 else old.count)
    by true lt = omega (arith, enough)
    by false ge = omega (arith, enough, ltb-false old.count old.wanted ge)

-- a node of height h whose branch has given back what it owes, and two branches of which were merged, has given back what it owes
pub gives_more : (h : ℕ) (first old new : Stock) → 2 ≤ h → first.count ≤ old.count → old.wanted ≡ first.wanted → min (first.count + (h - 1) - 2) first.wanted ≤ old.count → MayGiveBack h old new → min (first.count + h - 2) first.wanted ≤ new.count
gives_more h first old new low kept wanted owed given =
    elim (cases_lt 2 h) [
      | inl lt ↦ omega (arith, one_more_back old new (first.count + (h - 1) - 2) (given.inner lt) (omega arith))
      | inr ge ↦ omega (arith, given.kept)
    ]

-- a node one of whose branches lost a slot, and two branches of which may have been merged, gives back what it owes
pub gives_back : (self before b : Subtree) (first old new : Stock) (h n m width : ℕ) → before.height + 1 ≡ self.height → 1 ≤ before.height → 5 ≤ before.width → n ≡ self.width → h ≡ self.height → width ≡ b.width
    → first.count ≤ old.count → old.wanted ≡ first.wanted → GivesBack before b first old → (m < n → width < 5) → (m < n → MayGiveBack h old new) → GivesBack self (record self { width = m }) first new
gives_back self before b first old new h n m width e low wide same high w kept wanted owed short given falls =
    let merged : m < n = omega arith in
    let narrow = short merged in
    let there = owed (omega arith) in
    gives_more self.height first old new (omega arith) kept wanted (omega arith) (subst (λ k. MayGiveBack k old new) high (given merged))

-- where the branches of a node that lost a slot start
pub room_left : (us : List Subtree) (ss xs : List ℕ) (at : ℕ) → length us ≡ length ss + 1 → in_order (lists us) ss ≡ remove xs at → at < length xs → length xs < 2 ^ 32 → starts (lists us) ≤ 2 ^ 32
room_left us ss xs at fork list lt room = omega (arith, starts_in_order (lists us) ss (length-lists us ∙ fork), ap length list, length-remove xs at lt)
