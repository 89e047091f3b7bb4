use Rattle.std.proofs.Common.{◌≡◌, ◌∙◌, sym, ap, refl, is_some}
use Rattle.iddqd_store.specs.Contents.{find_item}
use Rattle.iddqd_ord_index.specs.Listed.{listed_items}
use Rattle.iddqd_store.specs.Query.{differ_from_ascends}
use Rattle.iddqd_store.specs.SlotItems.{item_of_slot}
use Rattle.iddqd_store.proofs.WrittenLemmas.{akin_key_kept, listed_slot, same_key_kept, written_found}
use Rattle.iddqd_ord.proofs.GetMutLemmas.{item_in_slot}
use Rattle.iddqd_ord.proofs.StoreAndIndexLemmas.{have_slots}
use Rattle.iddqd_ord.proofs.id_ord_map.IdOrdMap.get_mut.Goals as goal

pub invariant_of-result : goal.invariant_of-result
invariant_of-result g c =
    let m = c.self.inside in
    record { there = ap (λ v. is_some (item_of_slot v.slots v.items c.in_ok-slot.slot)) (sym c.self.view_is) ∙ (listed_slot m.index.slots (listed_items m.store m.index.slots) c.in_ok-slot.slot (have_slots m.store m.index.slots c.self.invariant).as_many).1 c.in_ok-slot.ensures.slot }

pub returns : goal.returns
returns g c =
    let m = c.self.inside in
    let now = c.args.self.now in
    let key = g.T.IdOrdItem.key in
    let eq = g.T.Key.PartialEq.eq in
    let cmp = g.T.Key.Ord.cmp in
    let test = g.Q.Equivalent.equivalent c.args.query.now in
    let equivalence = g.met.T.Key.Eq.laws in
    let slot = c.in_ok-slot.slot in
    let there = ap (λ v. is_some (item_of_slot v.slots v.items slot)) (sym c.self.view_is) ∙ (listed_slot m.index.slots (listed_items m.store m.index.slots) slot (have_slots m.store m.index.slots c.self.invariant).as_many).1 c.in_ok-slot.ensures.slot in
    let found : find_item key test now.items ≡ item_of_slot now.slots now.items slot =
    ap (λ v. find_item key test v.items) (sym c.self.view_is)
    ∙ sym c.in_ok-slot.ensures.item
    ∙ sym (item_in_slot m.store m.index.slots slot c.self.invariant.occupied (rw (← c.self.view_is) at there))
    ∙ ap (λ v. item_of_slot v.slots v.items slot) c.self.view_is in (
      (refl, λ w. refl, tt),
      record {
        unchanged_at_none = tt;
        absent = tt;
        same_map = refl;
        lent = refl;
        found = found;
        written = λ w. written_found key equivalence test (g.met.Q.Equivalent.one_key c.args.query.now) now.slots now.items (differ_from_ascends key cmp g.met.T.Key.Ord.matches_eq now.items c.requires.keyed) slot w there found;
        keyed = λ x w at same. same_key_kept key now.slots now.items slot x w at cmp same c.requires.keyed;
        keyed_akin = λ x w at akin. akin_key_kept key now.slots now.items slot x w at equivalence akin g.met.T.Key.Ord.total g.met.T.Key.Ord.matches_eq c.requires.keyed;
      },
    )
