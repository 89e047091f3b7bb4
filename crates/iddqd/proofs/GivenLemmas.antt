-- What a vector gives to a call that takes an iterator of items, for the proofs of callers.
--     vec_gives_then      the vector begins with what it gave before an item, and that item comes next
--     begins_with      the same as an equation
use Rattle.std.proofs.Common.{◌≡◌, List, [], ◌∷◌, ◌++◌, ◌∙◌, ap, sym}
use Rattle.std.specs.Iterator.{Yields}
use Rattle.std.specs.Vec.Iter.{into_iter_items, into_iter_steps}
use Rattle.std.specs.declared.vec.IntoIter.{IntoIter}
use Rattle.iddqd_store.specs.Collecting.{GivesThen}
use Rattle.iddqd.specs.Given.{BeginsWith}

-- what a vector's iterator gave before it came to a state, and what is still to come
given_front : {T A : Type 0} (it : IntoIter T A) (xs : List T) (left : IntoIter T A) → Yields into_iter_steps it xs left → into_iter_items it ≡ xs ++ into_iter_items left
given_front it [] left yields = ap into_iter_items yields
given_front it (x ∷ xs) left yields = yields.1.0 ∙ ap (λ ys. x ∷ ys) (given_front yields.0 xs left yields.2)

pub vec_gives_then : {T A V : Type 0} (becomes : V → IntoIter T A → Type 0) (from : V) (items : List T) → ((it : IntoIter T A) → becomes from it → into_iter_items it ≡ items) → (xs : List T) (x : T) → GivesThen becomes into_iter_steps from xs x → BeginsWith xs x items
unfolding BeginsWith GivesThen
vec_gives_then becomes from items begins xs x gives =
    let then = gives.3 in
    (into_iter_items gives.1, sym (begins gives.0 gives.2) ∙ given_front gives.0 xs then.0 then.1 ∙ ap (λ ys. xs ++ ys) then.2.0)

pub begins_with : {T : Type 0} (xs : List T) (x : T) (items : List T) → BeginsWith xs x items → (behind : List T) × (items ≡ xs ++ x ∷ behind)
unfolding BeginsWith
begins_with xs x items begins = begins
