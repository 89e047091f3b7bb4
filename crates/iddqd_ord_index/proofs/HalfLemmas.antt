-- An inner node that gets a branch and a slot, and where it is full is split.
use Rattle.std.proofs.Common.{◌≡◌, ℕ, ◌+◌, ◌<◌, ◌≤◌, List, [], ◌∷◌, ◌++◌, length, take, drop, refl, ap, sym, ◌∙◌, subst, arith, Bool, true, false}
use Rattle.std.specs.Bool.{if◌then◌else◌}
use Rattle.std.specs.List.{insert, All}
use Rattle.std.proofs.lemmas.List.{map-append, take_at, drop_at}
use Rattle.std.proofs.lemmas.List.Edits.{length-insert}
use Rattle.std.proofs.lemmas.List.Elements.{All-append, All-take, All-drop, All-cons, All-head}
use Rattle.iddqd_ord_index.specs.Shape.{Subtree, in_order, lists, levels, IsForked, IsBranch}
use Rattle.iddqd_ord_index.proofs.BelowLemmas.{length-lists}
use Rattle.iddqd_ord_index.proofs.PackedLemmas.{map-insert}
use Rattle.iddqd_ord_index.proofs.InOrderLemmas.{in_order_join}

pub one_more_lower : (b : Bool) → (if b then 7 else 6) ≡ (if b then 6 else 5) + 1
one_more_lower true = refl
one_more_lower false = refl

pub one_more_upper : (b : Bool) → (if b then 6 else 7) ≡ (if b then 5 else 6) + 1
one_more_upper true = refl
one_more_upper false = refl

module _ {T : Type 0} (P : T → Type 0) where
  pub All-left : (xs ys : List T) → All P (xs ++ ys) → All P xs
  All-left xs ys a = subst (λ l. All P l) (take_at xs ys (length xs) refl) (All-take P (length xs) (xs ++ ys) a)

  pub All-right : (xs ys : List T) → All P (xs ++ ys) → All P ys
  All-right xs ys a = subst (λ l. All P l) (drop_at xs ys (length xs) refl) (All-drop P (length xs) (xs ++ ys) a)

  All-insert : (xs : List T) (i : ℕ) (x : T) → P x → All P xs → All P (insert xs i x)
  All-insert xs i x p a = All-append P (take i xs) (x ∷ drop i xs) (All-take P i xs a) (All-cons P x (drop i xs) p (All-drop P i xs a))

pub levels_of : (h : ℕ) (ts : List Subtree) → 0 < length ts → All (IsBranch h) ts → levels ts ≡ h
levels_of h [] lt a = absurd (omega arith)
levels_of h (t ∷ ts) lt a = let i = All-head (IsBranch h) t ts a in i.height

pub forked_of : (h : ℕ) (ts : List Subtree) (ss : List ℕ) → All (IsBranch h) ts → length ts ≡ length ss + 1 → IsForked ts ss
forked_of h ts ss a e =
    record { branches = subst (λ m. All (IsBranch m) ts) (sym (levels_of h ts (omega arith) a)) a; fork = λ lt. e }

joined : (ls ms : List (List ℕ)) (ss ts : List ℕ) (t : ℕ) → length ls ≡ length ss + 1 → 0 < length ms → in_order (ls ++ ms) (ss ++ t ∷ ts) ≡ in_order ls ss ++ t ∷ in_order ms ts
joined ls [] ss ts t e lt = absurd (omega arith)
joined ls (m ∷ ms) ss ts t e lt = in_order_join ls m ms ss t ts e

-- a branch and a slot put in where there is room
module _ (ts us : List Subtree) (ss : List ℕ) (i middle : ℕ) (u : Subtree) (f : IsForked ts ss) (some : 0 < length ts) (le : i ≤ length ss) (e : us ≡ insert ts (i + 1) u) (b : IsBranch (levels ts) u) where
  more_all : All (IsBranch (levels ts)) us
  more_all = subst (λ l. All (IsBranch (levels ts)) l) (sym e) (All-insert (IsBranch (levels ts)) ts (i + 1) u b f.branches)

  more_length : length us ≡ length (insert ss i middle) + 1
  more_length = omega (arith, ap length e, length-insert ts (i + 1) u (omega (arith, f.fork some)), length-insert ss i middle le, f.fork some)

  pub more_forked : IsForked us (insert ss i middle)
  more_forked = forked_of (levels ts) us (insert ss i middle) more_all more_length

  pub more_lists : lists us ≡ insert (lists ts) (i + 1) u.slots
  more_lists = ap lists e ∙ map-insert (λ t. t.slots) ts (i + 1) u

-- twelve branches and one more, parted
module _ (ts lo up : List Subtree) (u : Subtree) (j h : ℕ) (e : insert ts j u ≡ lo ++ up) (a : All (IsBranch h) ts) (b : IsBranch h u) where
  lists_cut : insert (lists ts) j u.slots ≡ lists lo ++ lists up
  lists_cut = sym (map-insert (λ t. t.slots) ts j u) ∙ (ap lists e ∙ map-append (λ t. t.slots) lo up)

  all_cut : All (IsBranch h) (lo ++ up)
  all_cut = subst (λ l. All (IsBranch h) l) e (All-insert (IsBranch h) ts j u b a)

  pub lower_all : All (IsBranch h) lo
  lower_all = All-left (IsBranch h) lo up all_cut

  pub upper_all : All (IsBranch h) up
  upper_all = All-right (IsBranch h) lo up all_cut

  pub lists_join : (ss ts' rs : List ℕ) (t : ℕ) → rs ≡ ss ++ t ∷ ts' → length lo ≡ length ss + 1 → 0 < length up
      → in_order (insert (lists ts) j u.slots) rs ≡ in_order (lists lo) ss ++ t ∷ in_order (lists up) ts'
  lists_join ss ts' rs t r n lt =
      ap (λ l. in_order l rs) lists_cut ∙ (ap (λ l. in_order (lists lo ++ lists up) l) r ∙ joined (lists lo) (lists up) ss ts' t (length-lists lo ∙ n) (omega (arith, length-lists up)))
