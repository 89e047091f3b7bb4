use Rattle.std.proofs.Common.{◌≡◌, ◌+◌, ◌∙◌, Some, ap, arith, inl, refl, rules, subst, sym}
use Rattle.std.proofs.lemmas.Option.{slice_get_past}
use Rattle.iddqd_store.specs.Contents.{Ascends}
use Rattle.iddqd_store.proofs.WrittenLemmas.{akin_key_kept, same_key_kept}
use Rattle.iddqd_ord.specs.Guard.{item_in_slot, with_item_in_slot}
use Rattle.iddqd_ord.proofs.id_ord_map.iter_mut.IterMut.next.Goals as goal

pub returns-then-at-len : goal.returns-then-at-len
returns-then-at-len g c =
    let walk = c.args.self.now in
    let m = walk.map.now in
    let read = c.slot_at_position-slot.new.self in
    let same : read ≡ m = c.slot_at_position-slot.ensures.unchanged in
    let slot = c.slot_at_position-slot.result in
    let place = c.slot_at_position-slot.ensures.slot in
    let lent = c.item_in_slot_mut.result in
    let at : item_in_slot m slot ≡ Some lent.now = ap (λ v. item_in_slot v slot) (sym same) ∙ c.item_in_slot_mut.ensures.value in
    let key = g.T.IdOrdItem.key in
    let cmp = g.T.Key.Ord.cmp in (
      λ j. inl (lent.ghost_name, λ w. record { map = record walk.map { now = (ap (λ v. with_item_in_slot v slot w) same ∙ ap (λ xs. record m { items = xs }) (place.written w)) j }; done = walk.done + 1 }),
      record {
        writes_back = tt;
        value = sym at ∙ place.item;
        found = (λ _. omega (arith, c.if-at-len.true, c.len.ensures.len), λ _. refl);
        keyed = λ sorted w kept. subst (Ascends key cmp) (place.written w) (same_key_kept key m.slots m.items slot lent.now w at cmp kept sorted);
        keyed_akin = λ sorted w akin. subst (Ascends key cmp) (place.written w) (akin_key_kept key m.slots m.items slot lent.now w at g.met.T.Key.Eq.laws akin g.met.T.Key.Ord.total g.met.T.Key.Ord.matches_eq sorted);
      },
    )

pub returns-else-at-len : goal.returns-else-at-len
returns-else-at-len g c = (
  refl,
  record {
    writes_back = tt;
    value = sym (slice_get_past c.args.self.now.map.now.items c.args.self.now.done (omega (arith, c.if-at-len.false, c.len.ensures.len)));
    found = search rules;
    keyed = λ _. tt;
    keyed_akin = λ _. tt;
  },
)

pub overflow_add-self : goal.overflow_add-self
overflow_add-self g c = search rules
