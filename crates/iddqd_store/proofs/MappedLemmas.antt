-- Search, removal and placing of what a function shows of each item.
use Rattle.std.proofs.Common.{◌≡◌, ℕ, zero, suc, Bool, true, false, cond, not, List, [], ◌∷◌, map, filter, Some, sym, refl, ap, ◌∙◌}
use Rattle.std.specs.List.{insert, remove}
use Rattle.std.specs.Option.{option_map}
use Rattle.iddqd_store.specs.Contents.{find_item, items_without, items_overwritten}

choose : {A B : Type 0} (f : A → B) (b : Bool) (x y : A) → cond b (f x) (f y) ≡ f (cond b x y)
choose f true x y = refl
choose f false x y = refl

pub insert-map : {T U : Type 0} (shown : T → U) (xs : List T) (i : ℕ) (x : T) → map shown (insert xs i x) ≡ insert (map shown xs) i (shown x)
insert-map shown xs zero x = refl
insert-map shown [] (suc i) x = refl
insert-map shown (y ∷ ys) (suc i) x = ap (λ us. shown y ∷ us) (insert-map shown ys i x)

pub remove-map : {T U : Type 0} (shown : T → U) (xs : List T) (i : ℕ) → map shown (remove xs i) ≡ remove (map shown xs) i
remove-map shown [] zero = refl
remove-map shown [] (suc i) = refl
remove-map shown (y ∷ ys) zero = refl
remove-map shown (y ∷ ys) (suc i) = ap (λ us. shown y ∷ us) (remove-map shown ys i)

module _ {T U K : Type 0} (shown : T → U) (key : U → K) where
  pub find_item-map : (test : K → Bool) (xs : List T) → find_item key test (map shown xs) ≡ option_map shown (find_item (λ x. key (shown x)) test xs)
  find_item-map test [] = refl
  find_item-map test (x ∷ xs) =
      ap (cond (test (key (shown x))) (Some (shown x))) (find_item-map test xs)
      ∙ choose (option_map shown) (test (key (shown x))) (Some x) (find_item (λ y. key (shown y)) test xs)

  pub filter-map : (p : U → Bool) (xs : List T) → filter p (map shown xs) ≡ map shown (filter (λ x. p (shown x)) xs)
  filter-map p [] = refl
  filter-map p (x ∷ xs) =
      let rest = filter (λ y. p (shown y)) xs in
      ap (λ ys. cond (p (shown x)) (shown x ∷ ys) ys) (filter-map p xs) ∙ choose (map shown) (p (shown x)) (x ∷ rest) rest

  pub without-map : (test : K → Bool) (xs : List T) → map shown (items_without (λ x. key (shown x)) test xs) ≡ items_without key test (map shown xs)
  without-map test xs = sym (filter-map (λ y. not (test (key y))) xs)

  pub replaced-map : (test : K → Bool) (y : T) (xs : List T) → map shown (items_overwritten (λ x. key (shown x)) test y xs) ≡ items_overwritten key test (shown y) (map shown xs)
  replaced-map test y [] = refl
  replaced-map test y (x ∷ xs) =
      ap (λ z. z ∷ map shown (items_overwritten (λ w. key (shown w)) test y xs)) (sym (choose shown (test (key (shown x))) y x))
      ∙ ap (λ zs. cond (test (key (shown x))) (shown y) (shown x) ∷ zs) (replaced-map test y xs)
