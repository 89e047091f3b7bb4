use Rattle.std.proofs.Common.{◌≡◌, ◌≤◌, ◌-◌, ◌∙◌, insert, length, slice_get, sym, ap, subst, refl, arith}
use Rattle.std.proofs.lemmas.List.{length-map}
use Rattle.iddqd_store.specs.Contents.{Ascends, find_item}
use Rattle.iddqd_store.specs.Holding.{Holding}
use Rattle.iddqd_store.specs.Refusal.{refusal_kind}
use Rattle.iddqd_store.specs.SlotItems.{item_of_slot}
use Rattle.iddqd_store.specs.Store.{Store, vacant}
use Rattle.iddqd_store.proofs.CountingLemmas.{CountsAtMost-le}
use Rattle.iddqd_store.proofs.KeepsLemmas.{ascends_insert}
use Rattle.iddqd_store.proofs.QueryLemmas.{OrderedQuery, own_query, find_nowhere}
use Rattle.iddqd_ord_index.specs.Listed.{SlotList, listed_items}
use Rattle.iddqd_ord_index.proofs.ListedLemmas.{length-listed, listed-added}
use Rattle.iddqd_ord.specs.StoreAndIndex.{ListsOccupied}
use Rattle.iddqd_ord.proofs.EntryLemmas.{insert_then_get, put_item, put_others, put_written}
use Rattle.iddqd_ord.proofs.InsertOrFindLemmas.{akin_there}
use Rattle.iddqd_ord.proofs.StoreAndIndexLemmas.{bound_of, have_slots, paired_added}
use Rattle.iddqd_ord.proofs.id_ord_map.IdOrdMap.insert_or_find.Given.{Over}
use Rattle.iddqd_ord.proofs.id_ord_map.IdOrdMap.insert_or_find.Goals as goal

query : (g : Over) (k : g.row.T-Key.Denot) → OrderedQuery g.T.Key.PartialEq.eq g.T.Key.Ord.cmp (g.T.Key.PartialEq.eq k) (g.T.Key.Ord.cmp k)
query g = own_query g.T.Key.PartialEq.eq g.T.Key.Ord.cmp g.met.T.Key.Eq.laws g.met.T.Key.Ord.total g.met.T.Key.Ord.matches_eq

-- what a map of this store and this index shows
abbrev shown : {T : Type 0} → Store T → SlotList → Holding T
shown store index = record { items = listed_items store index.slots; slots = index.slots; vacant = vacant store; capacity = store.capacity; limit = store.limit }

pub invariant_of-self-in-Inserted : goal.invariant_of-self-in-Inserted
invariant_of-self-in-Inserted g c =
    let key = g.T.IdOrdItem.key in
    let item = c.args.item in
    let items = c.args.self.now.items in
    let m = c.self.inside in
    let ins = c.in-Inserted.ensures.inserted in
    let place = ins.0 in
    let slot = c.in-Some.slot in
    let free = c.in-Some.ensures.slot.free in
    let put = c.insert_into in
    let slots : c.insert_by_key.new.self.slots ≡ insert m.index.slots place slot = ap (λ i. i.slots) ins.2 in
    let within : place ≤ length m.index.slots = omega (arith, ins.1.0, length-map (listed_items m.store m.index.slots) key, length-listed m.store m.index.slots c.self.invariant.occupied) in
    subst (ListsOccupied put.new.self) (sym slots) (paired_added m.store put.new.self m.index.slots c.self.invariant slot place item within free put.ensures.updates put.ensures.len)

pub returns-in-Found-clause-missed : goal.returns-in-Found-clause-missed
returns-in-Found-clause-missed g c =
    let key = g.T.IdOrdItem.key in
    let item = c.args.item in
    let items = c.args.self.now.items in
    let m = c.self.inside in
    let view : shown m.store c.insert_by_key.new.self ≡ c.args.self.now = ap (λ i. shown m.store i) c.in-Found.ensures.kept ∙ c.self.view_is in
    let test = g.T.Key.PartialEq.eq (key item) in
    let slot = c.in-Found.there in
    let found = rw c.key.ensures at c.in-Found.ensures.found in
    let a = akin_there m.store m.index.slots slot (find_item key test (listed_items m.store m.index.slots)) c.self.invariant c.in-Found.ensures.listed found in (
      refl,
      view,
      a.0,
      ap (λ v. find_item key test v.items) (sym c.self.view_is) ∙ a.1,
      ap (λ v. item_of_slot v.slots v.items slot) (sym c.self.view_is) ∙ a.2,
    )

pub returns-in-Found-clause-steps : goal.returns-in-Found-clause-steps
returns-in-Found-clause-steps g c =
    let key = g.T.IdOrdItem.key in
    let item = c.args.item in
    let items = c.args.self.now.items in
    let m = c.self.inside in
    let bound = bound_of m.store m.index.slots c.self.invariant items (ap (λ v. v.items) c.self.view_is) in
    CountsAtMost-le c.insert_by_key.ensures.steps (omega (arith, bound))

pub returns-in-Inserted-clause-inserted : goal.returns-in-Inserted-clause-inserted
returns-in-Inserted-clause-inserted g c =
    let key = g.T.IdOrdItem.key in
    let item = c.args.item in
    let items = c.args.self.now.items in
    let m = c.self.inside in
    let ins = c.in-Inserted.ensures.inserted in
    let place = ins.0 in
    let slot = c.in-Some.slot in
    let free = c.in-Some.ensures.slot.free in
    let put = c.insert_into in
    let slots : c.insert_by_key.new.self.slots ≡ insert m.index.slots place slot = ap (λ i. i.slots) ins.2 in
    let within : place ≤ length m.index.slots = omega (arith, ins.1.0, length-map (listed_items m.store m.index.slots) key, length-listed m.store m.index.slots c.self.invariant.occupied) in
    let own = have_slots put.new.self c.insert_by_key.new.self.slots (invariant_of-self-in-Inserted g c) in
    let p = rw (ap (λ m. m.items) c.self.view_is, c.key.ensures) at ins.1 in
    let list = ap (listed_items put.new.self) slots ∙ (listed-added m.store put.new.self m.index.slots place slot item c.self.invariant.occupied free put.ensures.updates.changed put.ensures.updates.others ∙ ap (λ v. insert v.items place item) c.self.view_is) in
    record {
      inserts = record {
        room = omega (arith, c.in-Some.ensures.slot.room.1, c.self.invariant.counted, length-listed m.store m.index.slots c.self.invariant.occupied, ap (λ v. length v.items) c.self.view_is, ap (λ v. v.limit) c.self.view_is);
        added = record { place = place; within = omega (arith, p.0, length-map items key); put = list };
        slots = own;
        vacant = put.ensures.vacant ∙ ap (λ v. v.vacant - 1) c.self.view_is;
        capacity = omega (arith, put.ensures.capacity, ap (λ v. v.capacity) c.self.view_is);
        limit = put.ensures.limit ∙ ap (λ v. v.limit) c.self.view_is;
      };
      keyed = subst (Ascends key g.T.Key.Ord.cmp) (sym list) (ascends_insert key g.met.T.Key.Ord.total item items place c.requires.keyed p.0 p.1 p.2);
    }

pub returns-in-Inserted-clause-absent : goal.returns-in-Inserted-clause-absent
returns-in-Inserted-clause-absent g c =
    let key = g.T.IdOrdItem.key in
    let item = c.args.item in
    let items = c.args.self.now.items in
    let m = c.self.inside in
    let ins = c.in-Inserted.ensures.inserted in
    let p = rw (ap (λ m. m.items) c.self.view_is, c.key.ensures) at ins.1 in
    sym (find_nowhere key (query g (key item)) items c.requires.keyed ins.0 p.1 p.2)

pub returns-in-Inserted-clause-there : goal.returns-in-Inserted-clause-there
returns-in-Inserted-clause-there g c =
    let key = g.T.IdOrdItem.key in
    let item = c.args.item in
    let items = c.args.self.now.items in
    let m = c.self.inside in
    let ins = c.in-Inserted.ensures.inserted in
    let place = ins.0 in
    let slot = c.in-Some.slot in
    let free = c.in-Some.ensures.slot.free in
    let put = c.insert_into in
    let slots : c.insert_by_key.new.self.slots ≡ insert m.index.slots place slot = ap (λ i. i.slots) ins.2 in
    let within : place ≤ length m.index.slots = omega (arith, ins.1.0, length-map (listed_items m.store m.index.slots) key, length-listed m.store m.index.slots c.self.invariant.occupied) in
    let own = have_slots put.new.self c.insert_by_key.new.self.slots (invariant_of-self-in-Inserted g c) in
    let p = rw (ap (λ m. m.items) c.self.view_is, c.key.ensures) at ins.1 in
    let list = ap (listed_items put.new.self) slots ∙ (listed-added m.store put.new.self m.index.slots place slot item c.self.invariant.occupied free put.ensures.updates.changed put.ensures.updates.others ∙ ap (λ v. insert v.items place item) c.self.view_is) in
    let new = shown put.new.self c.insert_by_key.new.self in
    let at = ap (λ l. slice_get l place) slots ∙ insert_then_get m.index.slots place slot within in
    let inside : place ≤ length items = omega (arith, p.0, length-map items key) in (
      place,
      record {
        there = put_item new.slots items new.items place slot item own at inside list;
        placed = at;
        written = put_written new.slots items new.items place slot item own at inside list;
        others = put_others new.slots items new.items place slot item own at inside list;
      },
    )

pub returns-in-Inserted-clause-steps : goal.returns-in-Inserted-clause-steps
returns-in-Inserted-clause-steps g c =
    let key = g.T.IdOrdItem.key in
    let item = c.args.item in
    let items = c.args.self.now.items in
    let m = c.self.inside in
    let bound = bound_of m.store m.index.slots c.self.invariant items (ap (λ v. v.items) c.self.view_is) in
    CountsAtMost-le c.insert_by_key.ensures.steps (omega (arith, bound))

pub returns-in-Ok-clause-absent : goal.returns-in-Ok-clause-absent
returns-in-Ok-clause-absent g c =
    let key = g.T.IdOrdItem.key in
    let item = c.args.item in
    let items = c.args.self.now.items in
    let m = c.self.inside in
    let place = c.in-Unprepared.place in
    let p = rw (ap (λ m. m.items) c.self.view_is, c.key.ensures) at c.in-Unprepared.ensures.place in
    sym (find_nowhere key (query g (key item)) items c.requires.keyed place p.1 p.2)

pub returns-in-Ok-clause-there : goal.returns-in-Ok-clause-there
returns-in-Ok-clause-there g c =
    let key = g.T.IdOrdItem.key in
    let item = c.args.item in
    let items = c.args.self.now.items in
    let m = c.self.inside in
    let view : shown m.store c.insert_by_key.new.self ≡ c.args.self.now = ap (λ i. shown m.store i) c.in-Unprepared.ensures.kept ∙ c.self.view_is in
    let place = c.in-Unprepared.place in
    let p = rw (ap (λ m. m.items) c.self.view_is, c.key.ensures) at c.in-Unprepared.ensures.place in
    let slot = c.in-Ok.slot in
    let within : place ≤ length items = omega (arith, p.0, length-map items key) in
    let new = c.insert_at_place.new.self in
    let e = c.in-Ok.ensures in
    let own = e.inserted.inserts.slots in
    let put : new.items ≡ insert items place item = e.put ∙ ap (λ v. insert v.items place item) view in (
      place,
      record {
        there = put_item new.slots items new.items place slot item own e.slot within put;
        placed = e.slot;
        written = put_written new.slots items new.items place slot item own e.slot within put;
        others = put_others new.slots items new.items place slot item own e.slot within put;
      },
    )

pub returns-in-Ok-clause-steps : goal.returns-in-Ok-clause-steps
returns-in-Ok-clause-steps g c =
    let key = g.T.IdOrdItem.key in
    let item = c.args.item in
    let items = c.args.self.now.items in
    let m = c.self.inside in
    let bound = bound_of m.store m.index.slots c.self.invariant items (ap (λ v. v.items) c.self.view_is) in
    CountsAtMost-le c.insert_by_key.ensures.steps (omega (arith, bound))

pub returns-in-Err-clause-missed : goal.returns-in-Err-clause-missed
returns-in-Err-clause-missed g c =
    let key = g.T.IdOrdItem.key in
    let item = c.args.item in
    let items = c.args.self.now.items in
    let m = c.self.inside in
    let view : shown m.store c.insert_by_key.new.self ≡ c.args.self.now = ap (λ i. shown m.store i) c.in-Unprepared.ensures.kept ∙ c.self.view_is in
    let place = c.in-Unprepared.place in
    let p = rw (ap (λ m. m.items) c.self.view_is, c.key.ensures) at c.in-Unprepared.ensures.place in
    let absent = sym (find_nowhere key (query g (key item)) items c.requires.keyed place p.1 p.2) in
    let told = c.in-Err.ensures in
    (told.item, (absent, told.kind ∙ ap (λ v. refusal_kind v.limit v.items) view))

pub returns-in-Err-clause-steps : goal.returns-in-Err-clause-steps
returns-in-Err-clause-steps g c =
    let key = g.T.IdOrdItem.key in
    let item = c.args.item in
    let items = c.args.self.now.items in
    let m = c.self.inside in
    let bound = bound_of m.store m.index.slots c.self.invariant items (ap (λ v. v.items) c.self.view_is) in
    CountsAtMost-le c.insert_by_key.ensures.steps (omega (arith, bound))
