-- How the chain of the vacant slots goes from one state to the next.
use Rattle.std.proofs.Common.{◌≡◌, ◌≢◌, ◌⊎◌, ℕ, zero, suc, ◌+◌, ◌<◌, cond, eqb, Option, Some, None, IsSome, refl, sym, ap, subst, ◌∙◌, inl, inr, arith}
use Rattle.std.proofs.lemmas.Bool.{cases_eq}
use Rattle.std.proofs.lemmas.Bool.{eq-eqb, ne_eqb}
use Rattle.iddqd_store.specs.Slots.{no_slot, links_without, IsChained}

-- one slot has one pair of links
pub same_links : (o : Option (ℕ × ℕ)) (a b c d : ℕ) → o ≡ Some (a, b) → o ≡ Some (c, d) → (a ≡ c) × (b ≡ d)
same_links o a b c d x y =
    let e : ◌≡◌ {A = Option (ℕ × ℕ)} (Some (a, b)) (Some (c, d)) = sym x ∙ y in
    let pair : ◌≡◌ {A = ℕ × ℕ} (a, b) (c, d) = cc in
    (ap (λ p. p.0) pair, ap (λ p. p.1) pair)

some_not_none : {P : Type 0} (o : Option (ℕ × ℕ)) (p : ℕ × ℕ) → o ≡ None → o ≡ Some p → P
some_not_none o p x y = absurd (cc)

-- a rank that is another at one place
at_place : (rank : ℕ → ℕ) (at value : ℕ) → ℕ → ℕ
at_place rank at value s = cond (eqb s at) value (rank s)

at_place-same : (rank : ℕ → ℕ) (at value : ℕ) → at_place rank at value at ≡ value
unfolding at_place
at_place-same rank at value = ap (λ t. cond t value (rank at)) (eq-eqb at at refl)

at_place-other : (rank : ℕ → ℕ) (at value s : ℕ) → s ≢ at → at_place rank at value s ≡ rank s
unfolding at_place
at_place-other rank at value s other = ap (λ t. cond t value (rank s)) (ne_eqb s at other)

-- the links of all slots but one, at that slot and at another
pub without-same : (links : ℕ → Option (ℕ × ℕ)) (at : ℕ) → links_without links at at ≡ None
without-same links at = ap (λ t. cond t None (links at)) (eq-eqb at at refl)

pub without-other : (links : ℕ → Option (ℕ × ℕ)) (at s : ℕ) → s ≢ at → links_without links at s ≡ links s
without-other links at s other = ap (λ t. cond t None (links s)) (ne_eqb s at other)

-- where a slot is vacant the chain has a first
pub first_exists : (links : ℕ → Option (ℕ × ℕ)) (first s p n : ℕ) → IsChained links first → links s ≡ Some (p, n) → first ≢ no_slot
first_exists links first s p n chained is = climb chained.top s p n is (λ z. omega arith)
  where
    climb : (fuel s p n : ℕ) → links s ≡ Some (p, n) → (chained.rank s + fuel < chained.top → ⊥) → first ≢ no_slot
    climb zero s p n is low = absurd (low (omega (arith, chained.below s p n is)))
    climb (suc fuel) s p n is low =
        elim (cases_eq p no_slot) [
          | inl at_start ↦ λ e. some_not_none (links s) (p, n) (ap links (chained.start s n (subst (λ q. links s ≡ Some (q, n)) at_start is) ∙ e) ∙ chained.none) is
          | inr later ↦
              let before = chained.back s p n is later in
              let not_none : s ≢ no_slot = λ e. some_not_none (links s) (p, n) (ap links e ∙ chained.none) is in
              let rises = (chained.forth p before.0 s before.1 not_none).2 in
              climb fuel p before.0 s before.1 (λ z. low (omega arith))
        ]

-- equal links are chained alike
pub IsChained-along : (links links' : ℕ → Option (ℕ × ℕ)) (first : ℕ) → ((s : ℕ) → links' s ≡ links s) → IsChained links first → IsChained links' first
IsChained-along links links' first same chained = record {
  rank = chained.rank;
  top = chained.top;
  none = same no_slot ∙ chained.none;
  head = λ ne. let h = chained.head ne in (h.0, same first ∙ h.1);
  start = λ s n e. chained.start s n (sym (same s) ∙ e);
  forth = λ s p n e ne. let f = chained.forth s p n (sym (same s) ∙ e) ne in (f.0, same n ∙ f.1, f.2);
  back = λ s p n e ne. let f = chained.back s p n (sym (same s) ∙ e) ne in (f.0, same p ∙ f.1);
  below = λ s p n e. chained.below s p n (sym (same s) ∙ e);
}

-- a vacant slot joins at the head
module _ (links links' : ℕ → Option (ℕ × ℕ)) (first at : ℕ) (free : links at ≡ None) (number : at ≢ no_slot) (here : links' at ≡ Some (no_slot, first)) (next : first ≢ no_slot → (n : ℕ) → links first ≡ Some (no_slot, n) → links' first ≡ Some (at, n)) (others : (s : ℕ) → s ≢ at → (first ≢ no_slot → s ≢ first) → links' s ≡ links s) (chained : IsChained links first) where
  not_at : (s p n : ℕ) → links s ≡ Some (p, n) → s ≢ at
  not_at s p n is e = some_not_none (links s) (p, n) (ap links e ∙ free) is

  a_slot : (s p n : ℕ) → links s ≡ Some (p, n) → s ≢ no_slot
  a_slot s p n is e = some_not_none (links s) (p, n) (ap links e ∙ chained.none) is

  -- a slot that is vacant afterwards is the one that joins, the first before it, or another
  JoinCases : ℕ → ℕ → ℕ → Type 0
  JoinCases s p n =
      ((s ≡ at) × (p ≡ no_slot) × (n ≡ first))
      ⊎ ((s ≡ first) × (p ≡ at) × (links first ≡ Some (no_slot, n)))
      ⊎ ((first ≢ no_slot → s ≢ first) × (links s ≡ Some (p, n)))

  join_cases : (s p n : ℕ) → links' s ≡ Some (p, n) → JoinCases s p n
  unfolding JoinCases
  join_cases s p n is =
      elim (cases_eq s at) [
        | inl e ↦ let same = same_links (links' at) p n no_slot first (ap links' (sym e) ∙ is) here in inl (e, same.0, same.1)
        | inr other ↦ elim (cases_eq first no_slot) [
          | inl none ↦ inr (inr (λ ne. absurd (ne none), sym (others s other (λ ne. absurd (ne none))) ∙ is))
          | inr ne ↦ elim (cases_eq s first) [
            | inl e ↦
                let head = chained.head ne in
                let same = same_links (links' first) p n at head.0 (ap links' (sym e) ∙ is) (next ne head.0 head.1) in
                inr (inl (e, same.0, head.1 ∙ ap (λ m. Some (no_slot, m)) (sym same.1)))
            | inr away ↦ inr (inr (λ _. away, sym (others s other (λ _. away)) ∙ is))
          ]
        ]
      ]

  -- the links of a slot that another names as its next are as they were
  kept_next : (s m n : ℕ) → links n ≡ Some (s, m) → s ≢ no_slot → links' n ≡ Some (s, m)
  kept_next s m n is ne =
      others n (not_at n s m is) (λ some e. let head = chained.head some in ne (same_links (links n) s m no_slot head.0 is (ap links e ∙ head.1)).0) ∙ is

  -- the chain with the slot that joined
  pub IsChained-put : IsChained links' at
  unfolding JoinCases
  IsChained-put = record {
    rank = at_place chained.rank at chained.top;
    top = suc chained.top;
    none = others no_slot (λ e. number (sym e)) (λ ne e. ne (sym e)) ∙ chained.none;
    head = λ _. (first, here);
    start = λ s n is. elim (join_cases s no_slot n is) [
      | inl e ↦ e.0
      | inr rest ↦ elim rest [
        | inl e ↦ absurd (number (sym e.1))
        | inr e ↦ absurd (e.0 (λ none. a_slot s no_slot n e.1 (chained.start s n e.1 ∙ none)) (chained.start s n e.1))
      ]
    ];
    forth = λ s p n is some. elim (join_cases s p n is) [
      | inl e ↦
          let head = chained.head (λ z. some (e.2 ∙ z)) in
          let ranks = chained.below first no_slot head.0 head.1 in (
            head.0,
            subst (λ m. links' m ≡ Some (s, head.0)) (sym e.2) (subst (λ m. links' first ≡ Some (m, head.0)) (sym e.0) (next (λ z. some (e.2 ∙ z)) head.0 head.1)),
            rw (e.2, e.0, at_place-same, at_place-other chained.rank at chained.top first (not_at first no_slot head.0 head.1)) ranks,
          )
      | inr rest ↦ elim rest [
        | inl e ↦
            let f = chained.forth first no_slot n e.2 some in (
              f.0,
              subst (λ m. links' n ≡ Some (m, f.0)) (sym e.0) (kept_next first f.0 n f.1 (a_slot first no_slot n e.2)),
              rw (e.0, at_place-other chained.rank at chained.top n (not_at n first f.0 f.1), at_place-other chained.rank at chained.top first (not_at first no_slot n e.2)) f.2,
            )
        | inr e ↦
            let f = chained.forth s p n e.1 some in (
              f.0,
              kept_next s f.0 n f.1 (a_slot s p n e.1),
              rw (at_place-other chained.rank at chained.top n (not_at n s f.0 f.1), at_place-other chained.rank at chained.top s (not_at s p n e.1)) f.2,
            )
      ]
    ];
    back = λ s p n is some. elim (join_cases s p n is) [
      | inl e ↦ absurd (some e.1)
      | inr rest ↦ elim rest [
        | inl e ↦ (no_slot, subst (λ m. links' m ≡ Some (no_slot, s)) (sym e.1) (subst (λ m. links' at ≡ Some (no_slot, m)) (sym e.0) here))
        | inr e ↦
            let b = chained.back s p n e.1 some in
            elim (cases_eq first no_slot) [
              | inl none ↦ (b.0, others p (not_at p b.0 s b.1) (λ ne. absurd (ne none)) ∙ b.1)
              | inr ne ↦ elim (cases_eq p first) [
                | inl same ↦
                    let head = chained.head ne in
                    let link = same_links (links p) b.0 s no_slot head.0 b.1 (ap links same ∙ head.1) in
                    (at, subst (λ m. links' m ≡ Some (at, s)) (sym same) (subst (λ m. links' first ≡ Some (at, m)) (sym link.1) (next ne head.0 head.1)))
                | inr away ↦ (b.0, others p (not_at p b.0 s b.1) (λ _. away) ∙ b.1)
              ]
            ]
      ]
    ];
    below = λ s p n is. elim (join_cases s p n is) [
      | inl e ↦ rw (e.0, at_place-same) (omega arith)
      | inr rest ↦ elim rest [
        | inl e ↦ rw (e.0, at_place-other chained.rank at chained.top first (not_at first no_slot n e.2)) (omega (arith, chained.below first no_slot n e.2))
        | inr e ↦ rw (at_place-other chained.rank at chained.top s (not_at s p n e.1)) (omega (arith, chained.below s p n e.1))
      ]
    ];
  }

-- a vacant slot leaves
module _ (links links' : ℕ → Option (ℕ × ℕ)) (first first' at p n : ℕ) (was : links at ≡ Some (p, n)) (gone : links' at ≡ None) (next : n ≢ no_slot → (m : ℕ) → links n ≡ Some (at, m) → links' n ≡ Some (p, m)) (previous : p ≢ no_slot → (q : ℕ) → links p ≡ Some (q, at) → links' p ≡ Some (q, n)) (others : (s : ℕ) → s ≢ at → (n ≢ no_slot → s ≢ n) → (p ≢ no_slot → s ≢ p) → links' s ≡ links s) (at_start : p ≡ no_slot → first' ≡ n) (later : p ≢ no_slot → first' ≡ first) (chained : IsChained links first) where
  is_slot : (s a b : ℕ) → links s ≡ Some (a, b) → s ≢ no_slot
  is_slot s a b is e = some_not_none (links s) (a, b) (ap links e ∙ chained.none) is

  after : n ≢ no_slot → (m : ℕ) × (links n ≡ Some (at, m)) × (chained.rank n < chained.rank at)
  after some = chained.forth at p n was some

  before : p ≢ no_slot → (q : ℕ) × (links p ≡ Some (q, at)) × (chained.rank at < chained.rank p)
  before some =
      let b = chained.back at p n was some in
      (b.0, b.1, (chained.forth p b.0 at b.1 (is_slot at p n was)).2)

  -- a slot that is vacant afterwards is the next of the one that leaves, its previous, or another
  LeaveCases : ℕ → ℕ → ℕ → Type 0
  LeaveCases s a b =
      ((s ≡ n) × (n ≢ no_slot) × (a ≡ p) × (links n ≡ Some (at, b)))
      ⊎ ((s ≡ p) × (p ≢ no_slot) × (b ≡ n) × (links p ≡ Some (a, at)))
      ⊎ ((s ≢ at) × (n ≢ no_slot → s ≢ n) × (p ≢ no_slot → s ≢ p) × (links s ≡ Some (a, b)))

  leave_cases : (s a b : ℕ) → links' s ≡ Some (a, b) → LeaveCases s a b
  unfolding LeaveCases after before
  leave_cases s a b is =
      elim (cases_eq s at) [
        | inl e ↦ some_not_none (links' s) (a, b) (ap links' e ∙ gone) is
        | inr other ↦ at_next other
      ]
    where
      at_previous : s ≢ at → (n ≢ no_slot → s ≢ n) → LeaveCases s a b
      at_previous other far =
          elim (cases_eq p no_slot) [
            | inl none ↦ inr (inr (other, far, λ ne. absurd (ne none), sym (others s other far (λ ne. absurd (ne none))) ∙ is))
            | inr ne ↦ elim (cases_eq s p) [
              | inl e ↦
                  let b' = before ne in
                  let same = same_links (links' p) a b b'.0 n (ap links' (sym e) ∙ is) (previous ne b'.0 b'.1) in
                  inr (inl (e, ne, same.1, b'.1 ∙ ap (λ q. Some (q, at)) (sym same.0)))
              | inr away ↦ inr (inr (other, far, λ _. away, sym (others s other far (λ _. away)) ∙ is))
            ]
          ]

      at_next : s ≢ at → LeaveCases s a b
      at_next other =
          elim (cases_eq n no_slot) [
            | inl none ↦ at_previous other (λ ne. absurd (ne none))
            | inr ne ↦ elim (cases_eq s n) [
              | inl e ↦
                  let a' = after ne in
                  let same = same_links (links' n) a b p a'.0 (ap links' (sym e) ∙ is) (next ne a'.0 a'.1) in
                  inl (e, ne, same.0, a'.1 ∙ ap (λ m. Some (at, m)) (sym same.1))
              | inr away ↦ at_previous other (λ _. away)
            ]
          ]

  -- a slot far from the one that leaves has the links that it had
  kept_links : (x : ℕ) (o : ℕ × ℕ) → links x ≡ Some o → x ≢ at → (n ≢ no_slot → x ≢ n) → (p ≢ no_slot → x ≢ p) → links' x ≡ Some o
  kept_links x o is a b c = others x a b c ∙ is

  -- the chain without the slot that left
  pub IsChained-taken : IsChained links' first'
  unfolding LeaveCases after before
  IsChained-taken = record {
    rank = chained.rank;
    top = chained.top;
    none = others no_slot (λ e. is_slot at p n was (sym e)) (λ ne e. ne (sym e)) (λ ne e. ne (sym e)) ∙ chained.none;
    head = λ some. elim (cases_eq p no_slot) [
      | inl none ↦
          let ne : n ≢ no_slot = λ e. some (at_start none ∙ e) in
          let a' = after ne in
          (a'.0, subst (λ f. links' f ≡ Some (no_slot, a'.0)) (sym (at_start none)) (subst (λ q. links' n ≡ Some (q, a'.0)) none (next ne a'.0 a'.1)))
      | inr ne ↦ head_later ne (λ e. some (later ne ∙ e))
    ];
    start = λ s b is. elim (leave_cases s no_slot b is) [
      | inl e ↦ e.0 ∙ sym (at_start (sym e.2))
      | inr rest ↦ elim rest [
        | inl e ↦ e.0 ∙ chained.start p at e.3 ∙ sym (later e.1)
        | inr e ↦
            let first_is = chained.start s b e.3 in
            elim (cases_eq p no_slot) [
              | inl none ↦ absurd (e.0 (first_is ∙ sym (chained.start at n (subst (λ q. links at ≡ Some (q, n)) none was))))
              | inr ne ↦ first_is ∙ sym (later ne)
            ]
      ]
    ];
    forth = λ s a b is some. elim (leave_cases s a b is) [
      | inl e ↦
          let f = chained.forth n at b e.3 some in
          let low = (after e.1).2 in
          let falls = f.2 in (
            f.0,
            subst (λ t. links' b ≡ Some (t, f.0)) (sym e.0) (kept_links b (n, f.0) f.1 (λ z. absurd (let r = ap chained.rank z in omega arith)) (λ _ z. absurd (let r = ap chained.rank z in omega arith)) (λ ne z. absurd (let r = ap chained.rank z in omega (arith, (before ne).2)))),
            rw e.0 falls,
          )
      | inr rest ↦ elim rest [
        | inl e ↦
            let ne : n ≢ no_slot = λ z. some (e.2 ∙ z) in
            let a' = after ne in
            let b' = before e.1 in
            (a'.0, subst (λ t. links' t ≡ Some (s, a'.0)) (sym e.2) (subst (λ t. links' n ≡ Some (t, a'.0)) (sym e.0) (next ne a'.0 a'.1)), subst (λ t. chained.rank t < chained.rank s) (sym e.2) (subst (λ t. chained.rank n < chained.rank t) (sym e.0) (let x = a'.2 in let y = b'.2 in omega arith)))
        | inr e ↦ forth_far s a b e.0 e.1 e.2 e.3 some
      ]
    ];
    back = λ s a b is some. elim (leave_cases s a b is) [
      | inl e ↦
          let ne : p ≢ no_slot = λ z. some (e.2 ∙ z) in
          let b' = before ne in
          (b'.0, subst (λ t. links' t ≡ Some (b'.0, s)) (sym e.2) (subst (λ t. links' p ≡ Some (b'.0, t)) (sym e.0) (previous ne b'.0 b'.1)))
      | inr rest ↦ elim rest [
        | inl e ↦
            let f = chained.back p a at e.3 some in
            let up = (chained.forth a f.0 p f.1 e.1).2 in
            let low = (before e.1).2 in
            (f.0, subst (λ t. links' a ≡ Some (f.0, t)) (sym e.0) (kept_links a (f.0, p) f.1 (λ z. absurd (let r = ap chained.rank z in omega arith)) (λ ne z. absurd (let r = ap chained.rank z in omega (arith, (after ne).2))) (λ _ z. absurd (let r = ap chained.rank z in omega arith))))
        | inr e ↦ back_far s a b e.0 e.1 e.2 e.3 some
      ]
    ];
    below = λ s a b is. elim (leave_cases s a b is) [
      | inl e ↦ rw e.0 (chained.below n at b e.3)
      | inr rest ↦ elim rest [
        | inl e ↦ rw e.0 (chained.below p a at e.3)
        | inr e ↦ chained.below s a b e.3
      ]
    ];
  }
    where
      head_later : p ≢ no_slot → first ≢ no_slot → (m : ℕ) × (links' first' ≡ Some (no_slot, m))
      head_later ne some =
          let h = chained.head some in
          let b' = before ne in
          elim (cases_eq first p) [
            | inl same ↦
                let link = same_links (links p) b'.0 at no_slot h.0 b'.1 (ap links (sym same) ∙ h.1) in
                (n, rw (later ne, same) (previous ne no_slot (b'.1 ∙ ap (λ q. Some (q, at)) link.0)))
            | inr away ↦ (
              h.0,
              rw (later ne) (kept_links first (no_slot, h.0) h.1
                  (λ z. ne (same_links (links at) p n no_slot h.0 was (ap links (sym z) ∙ h.1)).0)
                  (λ some' z. let a' = after some' in is_slot at p n was (same_links (links n) at a'.0 no_slot h.0 a'.1 (ap links (sym z) ∙ h.1)).0)
                  (λ _. away)),
            )
          ]

      forth_far : (s a b : ℕ) → s ≢ at → (n ≢ no_slot → s ≢ n) → (p ≢ no_slot → s ≢ p) → links s ≡ Some (a, b) → b ≢ no_slot → (m : ℕ) × (links' b ≡ Some (s, m)) × (chained.rank b < chained.rank s)
      forth_far s a b far not_n not_p is some =
          let f = chained.forth s a b is some in
          let not_at : b ≢ at = λ z. let link = same_links (links at) p n s f.0 was (ap links (sym z) ∙ f.1) in not_p (λ e. is_slot s a b is (sym link.0 ∙ e)) (sym link.0) in
          let next_far : n ≢ no_slot → b ≢ n = λ ne z. let a' = after ne in far (sym (same_links (links n) at a'.0 s f.0 a'.1 (ap links (sym z) ∙ f.1)).0) in
          elim (cases_eq p no_slot) [
            | inl none ↦ (f.0, kept_links b (s, f.0) f.1 not_at next_far (λ ne. absurd (ne none)), f.2)
            | inr ne ↦ elim (cases_eq b p) [
              | inl same ↦
                  let b' = before ne in
                  let link = same_links (links p) b'.0 at s f.0 b'.1 (ap links (sym same) ∙ f.1) in
                  (n, rw same (previous ne s (b'.1 ∙ ap (λ q. Some (q, at)) link.0)), f.2)
              | inr away ↦ (f.0, kept_links b (s, f.0) f.1 not_at next_far (λ _. away), f.2)
            ]
          ]

      back_far : (s a b : ℕ) → s ≢ at → (n ≢ no_slot → s ≢ n) → (p ≢ no_slot → s ≢ p) → links s ≡ Some (a, b) → a ≢ no_slot → (q : ℕ) × (links' a ≡ Some (q, s))
      back_far s a b far not_n not_p is some =
          let f = chained.back s a b is some in
          let not_at : a ≢ at = λ z. let link = same_links (links at) p n f.0 s was (ap links (sym z) ∙ f.1) in not_n (λ e. is_slot s a b is (sym link.1 ∙ e)) (sym link.1) in
          let previous_far : p ≢ no_slot → a ≢ p = λ ne z. let b' = before ne in far (sym (same_links (links p) b'.0 at f.0 s b'.1 (ap links (sym z) ∙ f.1)).1) in
          elim (cases_eq n no_slot) [
            | inl none ↦ (f.0, kept_links a (f.0, s) f.1 not_at (λ ne. absurd (ne none)) previous_far)
            | inr ne ↦ elim (cases_eq a n) [
              | inl same ↦
                  let a' = after ne in
                  let link = same_links (links n) at a'.0 f.0 s a'.1 (ap links (sym same) ∙ f.1) in
                  (p, rw same (next ne s (a'.1 ∙ ap (λ m. Some (at, m)) link.1)))
              | inr away ↦ (f.0, kept_links a (f.0, s) f.1 not_at (λ _. away) previous_far)
            ]
          ]

-- a slot, the one before it and the one after it are three
pub apart : (links : ℕ → Option (ℕ × ℕ)) (first at p n : ℕ) → IsChained links first → links at ≡ Some (p, n) → (at ≢ no_slot) × (n ≢ no_slot → (m : ℕ) × (links n ≡ Some (at, m)) × (n ≢ at)) × (p ≢ no_slot → (q : ℕ) × (links p ≡ Some (q, at)) × (p ≢ at)) × (n ≢ no_slot → p ≢ no_slot → n ≢ p)
apart links first at p n chained is =
    let number : at ≢ no_slot = λ e. some_not_none (links at) (p, n) (ap links e ∙ chained.none) is in
    let low : n ≢ no_slot → chained.rank n < chained.rank at = λ ne. (chained.forth at p n is ne).2 in
    let high : p ≢ no_slot → chained.rank at < chained.rank p = λ ne. let b = chained.back at p n is ne in (chained.forth p b.0 at b.1 number).2 in (
      number,
      λ ne. let f = chained.forth at p n is ne in (f.0, f.1, λ e. let r = ap chained.rank e in absurd (omega (arith, low ne))),
      λ ne. let b = chained.back at p n is ne in (b.0, b.1, λ e. let r = ap chained.rank e in absurd (omega (arith, high ne))),
      λ ne ne' e. let r = ap chained.rank e in absurd (omega (arith, low ne, high ne')),
    )

-- what `set_previous` and then `set_next` leave
pub taken_by_writes : (links links₁ links₂ : ℕ → Option (ℕ × ℕ)) (first first' at p n : ℕ) → IsChained links first → links at ≡ Some (p, n)
    → (n ≢ no_slot → (a m : ℕ) → links n ≡ Some (a, m) → links₁ n ≡ Some (p, m)) → ((s : ℕ) → (n ≢ no_slot → s ≢ n) → links₁ s ≡ links s)
    → (p ≢ no_slot → (q b : ℕ) → links₁ p ≡ Some (q, b) → links₂ p ≡ Some (q, n)) → ((s : ℕ) → (p ≢ no_slot → s ≢ p) → links₂ s ≡ links₁ s)
    → (p ≡ no_slot → first' ≡ n) → (p ≢ no_slot → first' ≡ first)
    → IsChained (links_without links₂ at) first'
taken_by_writes links links₁ links₂ first first' at p n chained is at_next keep₁ at_previous keep₂ start later =
    let far = apart links first at p n chained is in
    IsChained-taken links (links_without links₂ at) first first' at p n is (without-same links₂ at)
    (λ ne m link. without-other links₂ at n (far.1 ne).2 ∙ keep₂ n (λ ne'. far.3 ne ne') ∙ at_next ne at m link)
    (λ ne q link. without-other links₂ at p (far.2 ne).2 ∙ at_previous ne q at (keep₁ p (λ ne' e. far.3 ne' ne (sym e)) ∙ link))
    (λ s a b c. without-other links₂ at s a ∙ keep₂ s c ∙ keep₁ s b)
    start later chained

-- what `set_previous` of the old first leaves
pub put_by_write : (links links' : ℕ → Option (ℕ × ℕ)) (first at : ℕ) → links at ≡ Some (no_slot, first) → IsChained (links_without links at) first → at ≢ no_slot
    → (first ≢ no_slot → (p n : ℕ) → links first ≡ Some (p, n) → links' first ≡ Some (at, n)) → ((s : ℕ) → (first ≢ no_slot → s ≢ first) → links' s ≡ links s) → IsChained links' at
put_by_write links links' first at is chained number write others =
    let far : first ≢ no_slot → first ≢ at = λ ne e. let h = chained.head ne in some_not_none (links_without links at first) (no_slot, h.0) (ap (links_without links at) e ∙ without-same links at) h.1 in
    IsChained-put (links_without links at) links' first at (without-same links at) number (others at (λ ne e. far ne (sym e)) ∙ is)
    (λ ne n link. write ne no_slot n (sym (without-other links at first (far ne)) ∙ link))
    (λ s away b. others s b ∙ sym (without-other links at s away))
    chained

-- the head of the chain has none before it
pub head_links : (links : ℕ → Option (ℕ × ℕ)) (first p n : ℕ) → IsChained links first → first ≢ no_slot → links first ≡ Some (p, n) → links first ≡ Some (no_slot, n)
head_links links first p n chained some is =
    let head = chained.head some in
    head.1 ∙ ap (λ m. Some (no_slot, m)) (sym (same_links (links first) p n no_slot head.0 is head.1).1)

-- the second of the chain is vacant still, once the first is filled
pub second_stays : (links links₁ : ℕ → Option (ℕ × ℕ)) (first n : ℕ) → IsChained links first → links first ≡ Some (no_slot, n) → ((s : ℕ) → links₁ s ≡ links_without links first s) → n ≢ no_slot → IsSome (links₁ n)
second_stays links links₁ first n chained is filled some =
    let second = (apart links first first no_slot n chained is).1 some in
    rw (filled n ∙ without-other links first n second.2 ∙ second.1) refl

-- what filling the first and `set_previous` of the second leave
pub first_filled : (links links₁ links₂ : ℕ → Option (ℕ × ℕ)) (first n : ℕ) → IsChained links first → links first ≡ Some (no_slot, n) → ((s : ℕ) → links₁ s ≡ links_without links first s)
    → (n ≢ no_slot → (p m : ℕ) → links₁ n ≡ Some (p, m) → links₂ n ≡ Some (no_slot, m)) → ((s : ℕ) → (n ≢ no_slot → s ≢ n) → links₂ s ≡ links₁ s) → IsChained links₂ n
first_filled links links₁ links₂ first n chained is filled write others =
    let far = apart links first first no_slot n chained is in
    IsChained-taken links links₂ first n first no_slot n is (others first (λ ne e. (far.1 ne).2 (sym e)) ∙ filled first ∙ without-same links first)
    (λ ne m link. write ne first m (filled n ∙ without-other links first n (far.1 ne).2 ∙ link))
    (λ ne. absurd (ne refl))
    (λ s a b _. others s b ∙ filled s ∙ without-other links first s a)
    (λ _. refl) (λ ne. absurd (ne refl)) chained
