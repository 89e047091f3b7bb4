-- What a contract reads of an error.
--     values_of few      the values of a `Few`, in order
--     new_item_of, duplicates_of      what a `DuplicateItem` holds
--     lent_duplicates_of      the items themselves, if it holds references
--     OwnsDuplicatesOf      what `into_owned` returns
use Rattle.std.specs.Borrow.{Bor}
use Rattle.std.specs.Prelude.{◌≡◌, List, [], ◌∷◌, map}
use Rattle.iddqd_store.specs.declared.errors.Few.{Few}
use Rattle.iddqd_store.specs.declared.errors.Few.TheVariants.{One, Two, Three}
use Rattle.iddqd_store.specs.declared.errors.DuplicateItem.{DuplicateItem}

-- the values, in order
abbrev pub values_of : {D : Type 0} → Few D → List D
values_of (One a) = a ∷ []
values_of (Two a b) = a ∷ b ∷ []
values_of (Three a b c) = a ∷ b ∷ c ∷ []

module _ {T D : Type 0} where
  -- the item that was passed to the call
  abbrev pub new_item_of : DuplicateItem T D → T
  new_item_of d = d.new

  -- the existing items of an equal key
  abbrev pub duplicates_of : DuplicateItem T D → List D
  duplicates_of d = values_of d.duplicates

module _ {T : Type 0} where
  -- the existing items themselves, of an error that lends them
  abbrev pub lent_duplicates_of : DuplicateItem T (Bor T) → List T
  lent_duplicates_of d = map (λ lent. lent.now) (duplicates_of d)

  -- the same error, with the items themselves in place of references to them
  abbrev pub OwnsDuplicatesOf : DuplicateItem T (Bor T) → DuplicateItem T T → Type 0
  OwnsDuplicatesOf lent owned = duplicates_of owned ≡ lent_duplicates_of lent
