use Rattle.std.proofs.Common.{◌≡◌, ℕ, ◌<◌, Option, Some, None, is_some, true, length, ap, refl, arith, ⊎_elim}
use Rattle.std.proofs.lemmas.Bool.{cases_lt}
use Rattle.std.proofs.lemmas.List.{length-map}
use Rattle.iddqd_store.specs.Slots.{item_of}
use Rattle.iddqd_store.specs.Store.{Store, item_at, AreVacantFrom, IsOccupied}
use Rattle.iddqd_store.proofs.item_store.ItemStore.occupied_from.Goals as goal

module _ {T : Type 0} (s : Store T) (from : ℕ) (some : ¬ AreVacantFrom s from) where
  -- the number is a slot's, since one from it on has an item
  from_within : from < length s.slots
  from_within = ⊎_elim (λ l. l) (λ l. absurd (some (λ slot above below. absurd (omega (arith, l, above, below))))) (cases_lt from (length s.slots))

  found_occupied : (slot : ℕ) → (item_at s slot ≡ None → AreVacantFrom s from) → IsOccupied s slot
  found_occupied slot none = by (item_at s slot) refl
    where
      by : (item : Option T) → item_at s slot ≡ item → is_some (item_at s slot) ≡ true
      by (Some x) is = ap is_some is
      by None is = absurd (some (none is))

pub index-requires : goal.index-requires
index-requires g c =
    omega (arith, from_within c.args.self.now c.args.from c.requires, ap (λ v. length v.slots) c.self.view_is, length-map c.self.inside.slots.items item_of)

pub returns-in-Vacant-clause-slot : goal.returns-in-Vacant-clause-slot
returns-in-Vacant-clause-slot g c =
    c.first_occupied.ensures.slot (found_occupied c.args.self.now c.args.from c.requires c.first_occupied.result c.first_occupied.ensures.none)

pub returns-in-Vacant-clause-number : goal.returns-in-Vacant-clause-number
returns-in-Vacant-clause-number g c =
    c.first_occupied.ensures.number (found_occupied c.args.self.now c.args.from c.requires c.first_occupied.result c.first_occupied.ensures.none)
