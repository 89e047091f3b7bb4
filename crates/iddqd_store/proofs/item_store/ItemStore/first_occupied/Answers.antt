use Rattle.std.proofs.Common.{◌≡◌, ◌<◌, ◌≤◌, ◌∙◌, None, length, ap, sym, arith, ⊎_elim, true≢false}
use Rattle.std.proofs.lemmas.Bool.{cases_lt}
use Rattle.std.proofs.lemmas.Grind.{common_steps}
use Rattle.std.proofs.lemmas.List.{get_or-map, get_or_past, length-map}
use Rattle.iddqd_store.specs.Slots.{item_of, no_slot}
use Rattle.iddqd_store.specs.Store.{item_at}
use Rattle.iddqd_store.proofs.item_store.ItemStore.first_occupied.Goals as goal

pub loop-slot-preserved : goal.loop-slot-preserved
loop-slot-preserved g c =
    let es = c.self.inside.slots.items in
    let slot = c.loop-slot.slot in
    let within : slot < length es = omega (arith, c.loop-slot-test.true, c.loop-slot.invariant.1, ap (λ v. length v.slots) c.self.view_is, length-map es item_of) in
    let here : item_at c.args.self.now slot ≡ None =
    ap (λ v. item_at v slot) (sym c.self.view_is) ∙ get_or-map item_of es slot c.index.result.now None within
    ∙ ap item_of (sym c.index.ensures ∙ c.in_default.is) in (
      omega (arith, c.loop-slot.invariant.0),
      c.loop-slot.invariant.1,
      λ other above below. ⊎_elim
          (λ l. c.loop-slot.invariant.2 other above l)
          (λ l. let same : other ≡ slot = omega (arith, l, below) in ap (item_at c.args.self.now) same ∙ here)
          (cases_lt other slot),
    )

pub returns-in-Occupied-clause-slot : goal.returns-in-Occupied-clause-slot
returns-in-Occupied-clause-slot g c = grind (arith, common_steps)

pub returns-in-Occupied-clause-none : goal.returns-in-Occupied-clause-none
returns-in-Occupied-clause-none g c = grind (arith, common_steps)

-- `NO_SLOT` is past the end
pub returns-clause-slot : goal.returns-clause-slot
returns-clause-slot g c =
    let es = c.self.inside.slots.items in
    let long : length c.args.self.now.slots ≤ no_slot = omega (arith, c.self.invariant.within, c.self.invariant.fits, ap (λ v. length v.slots) c.self.view_is, length-map es item_of) in
    λ some. absurd (true≢false (sym (rw (get_or_past c.args.self.now.slots no_slot None long) at some)))
