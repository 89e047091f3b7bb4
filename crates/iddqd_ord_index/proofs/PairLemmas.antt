-- What two neighbours are when they are merged, or when one has borrowed a slot from the other.
use Rattle.std.proofs.Common.{◌≡◌, ℕ, ◌+◌, ◌<◌, List, [], ◌∷◌, ◌++◌, length, take, drop, get_or, refl, ap, sym, ◌∙◌, subst, arith, append_assoc, length-append}
use Rattle.std.proofs.lemmas.List.{drop_more}
use Rattle.iddqd_ord_index.specs.Shape.{Subtree, in_order, lists, levels, tree, IsForked, IsDense}
use Rattle.iddqd_ord_index.proofs.DenseLemmas.{dense_of}
use Rattle.iddqd_ord_index.proofs.TierLemmas.{IsTier, tier_of, tier_levels, tier_forked, tier_take, tier_drop, tier_join, in_order_tiers, in_order_cut_at}

-- a node's branches and slots, and its list
pub record IsJoined (h : ℕ) (ts : List Subtree) (ss all : List ℕ) : Type 0 where
  pub forked : IsForked ts ss
  pub height : levels ts ≡ h
  pub list : in_order (lists ts) ss ≡ all
  pub dense : IsDense (tree ts ss)

-- the same slots in two nodes, cut at another one
pub record IsMoved (h : ℕ) (all : List ℕ) (ta : List Subtree) (sa : List ℕ) (top : ℕ) (tb : List Subtree) (sb : List ℕ) : Type 0 where
  pub lower : IsForked ta sa
  pub upper : IsForked tb sb
  pub height : (levels ta ≡ h) × (levels tb ≡ h)
  pub list : all ≡ in_order (lists ta) sa ++ top ∷ in_order (lists tb) sb
  pub dense : IsDense (tree ta sa) × IsDense (tree tb sb)

joined : (h : ℕ) (ta tb tj : List Subtree) (sa sb rs : List ℕ) (m : ℕ) → IsTier h ta sa → IsTier h tb sb → tj ≡ ta ++ tb → rs ≡ sa ++ m ∷ sb
    → IsTier h tj rs × (in_order (lists tj) rs ≡ in_order (lists ta) sa ++ m ∷ in_order (lists tb) sb)
joined h ta tb tj sa sb rs m a b e r = (
  subst (λ t. IsTier h t rs) (sym e) (subst (λ s. IsTier h (ta ++ tb) s) (sym r) (tier_join h ta tb sa sb m a b)),
  ap (λ t. in_order (lists t) rs) e ∙ (ap (λ s. in_order (lists (ta ++ tb)) s) r ∙ in_order_tiers h ta tb sa sb m a b),
)

pub first_cut : (xs ys : List ℕ) (x : ℕ) → 0 < length xs → x ≡ get_or xs 0 x → ys ≡ drop 1 xs → xs ≡ x ∷ ys
first_cut xs ys x lt e d = drop_more xs 0 x lt ∙ (ap (λ y. y ∷ drop 1 xs) (sym e) ∙ ap (λ l. x ∷ l) (sym d))

module _ (h : ℕ) (ta tb : List Subtree) (sa sb : List ℕ) (m : ℕ) (fa : IsForked ta sa) (fb : IsForked tb sb) (la : levels ta ≡ h) (lb : levels tb ≡ h) where
  tier_a : IsTier h ta sa
  tier_a = tier_of h ta sa fa la

  tier_b : IsTier h tb sb
  tier_b = tier_of h tb sb fb lb

  abbrev all : List ℕ
  all = in_order (lists ta) sa ++ m ∷ in_order (lists tb) sb

  moved_of : (ta' tb' : List Subtree) (sa' sb' : List ℕ) (s : ℕ) → IsTier h ta' sa' → IsTier h tb' sb' → all ≡ in_order (lists ta') sa' ++ s ∷ in_order (lists tb') sb' → IsMoved h all ta' sa' s tb' sb'
  moved_of ta' tb' sa' sb' s a b e =
      let fa' = tier_forked h ta' sa' a in
      let fb' = tier_forked h tb' sb' b in
      record { lower = fa'; upper = fb'; height = (tier_levels h ta' sa' a, tier_levels h tb' sb' b); list = e; dense = (dense_of ta' sa' fa', dense_of tb' sb' fb') }

  -- all of b stands behind a
  pub merged : (ts : List Subtree) (rs : List ℕ) → ts ≡ ta ++ tb → rs ≡ sa ++ m ∷ sb → IsJoined h ts rs all
  merged ts rs e r =
      let j = joined h ta tb ts sa sb rs m tier_a tier_b e r in
      let f = tier_forked h ts rs j.0 in
      record { forked = f; height = tier_levels h ts rs j.0; list = j.1; dense = dense_of ts rs f }

  -- the first branch of b stands behind a, and m behind the slots of a
  pub moved_first : (ta' tb' : List Subtree) (sa' sb' : List ℕ) (s : ℕ) → ta' ≡ ta ++ take 1 tb → tb' ≡ drop 1 tb → sa' ≡ sa ++ m ∷ [] → sb ≡ s ∷ sb' → IsMoved h all ta' sa' s tb' sb'
  moved_first ta' tb' sa' sb' s ea eb ra rb =
      let l = ap length rb in
      let f = tier_take h tb sb [] 1 tier_b refl (omega arith) in
      let j = joined h ta (take 1 tb) ta' sa [] sa' m tier_a f ea ra in
      let u = subst (λ t. IsTier h t sb') (sym eb) (tier_drop h tb sb sb' 1 tier_b (omega arith)) in
      let c : in_order (lists tb) sb ≡ in_order (lists (take 1 tb)) [] ++ s ∷ in_order (lists tb') sb' =
      in_order_cut_at h tb sb [] sb' s 1 tier_b rb refl ∙ ap (λ t. in_order (lists (take 1 tb)) [] ++ s ∷ in_order (lists t) sb') (sym eb) in
      moved_of ta' tb' sa' sb' s j.0 u
      (ap (λ l. in_order (lists ta) sa ++ m ∷ l) c
      ∙ (sym (append_assoc (in_order (lists ta) sa) (m ∷ in_order (lists (take 1 tb)) []) (s ∷ in_order (lists tb') sb'))
      ∙ ap (λ l. l ++ s ∷ in_order (lists tb') sb') (sym j.1)))

  -- the last branch of a stands before b, and m before the slots of b
  pub moved_last : (ta' tb' : List Subtree) (sa' sb' : List ℕ) (s k : ℕ) → ta' ≡ take k ta → tb' ≡ drop k ta ++ tb → k ≡ length sa → sa ≡ sa' ++ s ∷ [] → sb' ≡ m ∷ sb → IsMoved h all ta' sa' s tb' sb'
  moved_last ta' tb' sa' sb' s k ea eb z ra rb =
      let l : length sa ≡ length sa' + 1 = ap length ra ∙ length-append sa' (s ∷ []) in
      let f = tier_drop h ta sa [] k tier_a (omega arith) in
      let t = subst (λ t. IsTier h t sa') (sym ea) (tier_take h ta sa sa' k tier_a (z ∙ l) (omega arith)) in
      let j = joined h (drop k ta) tb tb' [] sb sb' m f tier_b eb rb in
      let c : in_order (lists ta) sa ≡ in_order (lists ta') sa' ++ s ∷ in_order (lists (drop k ta)) [] =
      in_order_cut_at h ta sa sa' [] s k tier_a ra (z ∙ l) ∙ ap (λ q. in_order (lists q) sa' ++ s ∷ in_order (lists (drop k ta)) []) (sym ea) in
      moved_of ta' tb' sa' sb' s t j.0
      (ap (λ l. l ++ m ∷ in_order (lists tb) sb) c
      ∙ (append_assoc (in_order (lists ta') sa') (s ∷ in_order (lists (drop k ta)) []) (m ∷ in_order (lists tb) sb)
      ∙ ap (λ l. in_order (lists ta') sa' ++ s ∷ l) (sym j.1)))
