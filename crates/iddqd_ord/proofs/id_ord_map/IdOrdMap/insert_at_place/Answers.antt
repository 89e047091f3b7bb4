use Rattle.std.proofs.Common.{◌≡◌, ◌≤◌, ◌-◌, ◌∙◌, insert, slice_get, ap, subst, sym, length, arith, rules}
use Rattle.std.proofs.lemmas.List.{length-map}
use Rattle.iddqd_store.specs.Contents.{Ascends}
use Rattle.iddqd_ord_index.specs.Listed.{listed_items}
use Rattle.iddqd_store.specs.Refusal.{refusal_kind}
use Rattle.iddqd_store.specs.Store.{vacant}
use Rattle.iddqd_store.proofs.KeepsLemmas.{ascends_insert}
use Rattle.iddqd_ord_index.proofs.ListedLemmas.{length-listed}
use Rattle.iddqd_store.proofs.RefusalLemmas.{kind_by_length}
use Rattle.iddqd_ord.proofs.EntryLemmas.{insert_then_get}
use Rattle.iddqd_ord.proofs.StoreAndIndexLemmas.{have_slots}
use Rattle.iddqd_ord.proofs.id_ord_map.IdOrdMap.insert_at_place.Goals as goal

pub returns-in-Err-clause-kind : goal.returns-in-Err-clause-kind
returns-in-Err-clause-kind g c =
    let m = c.self.inside in
    c.in-Err.ensures.kind
    ∙ kind_by_length m.store.limit m.index.slots (listed_items m.store m.index.slots) (sym (length-listed m.store m.index.slots c.self.invariant.occupied))
    ∙ ap (λ v. refusal_kind v.limit v.items) c.self.view_is

pub insert_in_both-requires-clause-in_list : goal.insert_in_both-requires-clause-in_list
insert_in_both-requires-clause-in_list g c =
    let m = c.self.inside in
    omega (arith, c.requires.place.0, length-map c.args.self.now.items g.T.IdOrdItem.key, ap (λ v. length v.items) c.self.view_is, length-listed m.store m.index.slots c.self.invariant.occupied, ap length c.in_default.ensures.slots)

pub returns-clause-inserted : goal.returns-clause-inserted
returns-clause-inserted g c =
    let key = g.T.IdOrdItem.key in
    let m = c.self.inside in
    let items = c.args.self.now.items in
    let place = c.args.place in
    let room = c.reserve_one.new in
    let kept : listed_items room.store room.index.slots ≡ items =
    ap (λ s. listed_items s room.index.slots) c.in_default.ensures.store ∙ ap (listed_items m.store) c.in_default.ensures.slots ∙ ap (λ v. v.items) c.self.view_is in
    let put : listed_items c.insert_in_both.new.store c.insert_in_both.new.index.slots ≡ insert items place c.args.item = c.insert_in_both.ensures.put ∙ ap (λ xs. insert xs place c.args.item) kept in
    record {
      inserts = record {
        room = omega (arith, c.in_default.ensures.below_limit, length-listed m.store m.index.slots c.self.invariant.occupied, ap (λ v. length v.items) c.self.view_is, ap (λ v. v.limit) c.self.view_is);
        added = record { place = place; within = omega (arith, c.requires.place.0, length-map items key); put = put };
        slots = have_slots c.insert_in_both.new.store c.insert_in_both.new.index.slots c.insert_in_both.ensures.paired;
        vacant = c.insert_in_both.ensures.vacant ∙ ap (λ s. vacant s - 1) c.in_default.ensures.store ∙ ap (λ v. v.vacant - 1) c.self.view_is;
        capacity = omega (arith, c.insert_in_both.ensures.bounds.0, c.in_default.ensures.capacity, ap (λ v. v.capacity) c.self.view_is);
        limit = c.insert_in_both.ensures.bounds.1 ∙ ap (λ s. s.limit) c.in_default.ensures.store ∙ ap (λ v. v.limit) c.self.view_is;
      };
      keyed = subst (Ascends key g.T.Key.Ord.cmp) (sym put) (ascends_insert key g.met.T.Key.Ord.total c.args.item items place c.requires.keyed c.requires.place.0 c.requires.place.1 c.requires.place.2);
    }

pub returns-clause-slot : goal.returns-clause-slot
returns-clause-slot g c =
    let m = c.self.inside in
    let within : c.args.place ≤ length c.reserve_one.new.index.slots = omega (arith, c.requires.place.0, length-map c.args.self.now.items g.T.IdOrdItem.key, ap (λ v. length v.items) c.self.view_is, length-listed m.store m.index.slots c.self.invariant.occupied, ap length c.in_default.ensures.slots) in
    ap (λ xs. slice_get xs c.args.place) c.insert_in_both.ensures.slots ∙ insert_then_get c.reserve_one.new.index.slots c.args.place c.insert_in_both.result within

pub returns-in-Err-clause-kept : goal.returns-in-Err-clause-kept
returns-in-Err-clause-kept g c = search rules
