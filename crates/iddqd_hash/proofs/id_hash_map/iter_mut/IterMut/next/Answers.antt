use Rattle.std.proofs.Common.{ℕ, ◌≡◌, ◌+◌, ◌∙◌, sym, subst, arith, Some, slice_get, ap, rules, inl, inr, refl}
use mathlib.Core.HLevel.{is_prop→PathP}
use Rattle.std.proofs.Math.Nat.{ℕ_set}
use Rattle.std.proofs.lemmas.Option.{slice_get_past}
use Rattle.iddqd_store.specs.Hashing.{hash_under}
use Rattle.iddqd_store.specs.SlotItems.{written_to_slot}
use Rattle.iddqd_store.proofs.WrittenLemmas.{place_read}
use Rattle.iddqd_hash_parts.specs.HashItems.{IsKeyed}
use Rattle.iddqd_hash_parts.specs.SlotOrder.{behind, slots_below}
use Rattle.iddqd_hash_parts.proofs.GetMutLemmas.{keyed_akin_written, keyed_written}
use Rattle.iddqd_hash_parts.proofs.RisingLemmas.{behind_next, there_listed}
use Rattle.iddqd_hash.proofs.id_hash_map.iter_mut.IterMut.next.Goals as goal

-- two proofs that numbers are equal are one
all_same : {A : Type 0} {n b : ℕ} (p q : A → n ≡ b) → p ≡ q
all_same p q i w = ℕ_set _ _ (p w) (q w) i

pub slot_from-slot-requires : goal.slot_from-slot-requires
slot_from-slot-requires g c =
    let walk = c.args.self.now in
    (walk.done, walk.from, omega (arith, c.if-self-len.true, c.len.ensures.len, c.len.ensures.slots.as_many))

pub item_in_slot_mut-requires : goal.item_in_slot_mut-requires
item_in_slot_mut-requires g c =
    let m = c.args.self.now.map.now in
    let found = c.slot_from-slot.ensures.found in
    there_listed m.slots (slots_below c.args.self.now.next m.slots) c.slot_from-slot.result found.there m.items found.own

pub invariant_of-self-lent : goal.invariant_of-self-lent
invariant_of-self-lent g c w =
    let walk = c.args.self.now in
    let m = walk.map.now in
    let slot = c.slot_from-slot.result in
    let found = c.slot_from-slot.ensures.found in
    let below : slots_below walk.next m.slots ≡ walk.done = ap (λ n. slots_below n m.slots) walk.from ∙ found.rises walk.done (omega (arith, c.if-self-len.true, c.len.ensures.len, found.own.as_many)) in
    (behind_next m.slots walk.done slot (ap (slice_get m.slots) (sym below) ∙ found.there), tt)

pub returns-then-self-len : goal.returns-then-self-len
unfolding IsKeyed
returns-then-self-len g c =
    let walk = c.args.self.now in
    let m = walk.map.now in
    let slot = c.slot_from-slot.result in
    let found = c.slot_from-slot.ensures.found in
    let below : slots_below walk.next m.slots ≡ walk.done = ap (λ n. slots_below n m.slots) walk.from ∙ found.rises walk.done (omega (arith, c.if-self-len.true, c.len.ensures.len, found.own.as_many)) in
    let there : slice_get m.slots walk.done ≡ Some slot = ap (slice_get m.slots) (sym below) ∙ found.there in
    let read = place_read m.slots m.items walk.done slot found.own there in
    let x = c.item_in_slot_mut.result.now in
    let at = c.item_in_slot_mut.ensures.value in
    let key = g.T.IdHashItem.key in
    let input = g.T.Key.Hash.hash_input in
    let hash = hash_under g.S.BuildHasher g.S.Hasher.Hasher in
    let next : slot + 1 ≡ behind m.slots (walk.done + 1) = behind_next m.slots walk.done slot there in (
      ap (λ q. inl (
        c.item_in_slot_mut.result.ghost_name,
        λ w. record {
          map = record walk.map { now = record m { items = written_to_slot m.slots m.items slot w } };
          done = walk.done + 1;
          next = slot + 1;
          from = q w;
        },
      )) (all_same _ (λ w. next))
          ∙ (λ j. inl (
            c.item_in_slot_mut.result.ghost_name,
            λ w. record {
              map = record walk.map { now = record m { items = read.written w j } };
              done = walk.done + 1;
              next = next j;
              from = is_prop→PathP (λ i. next i ≡ behind m.slots (walk.done + 1)) (λ i. ℕ_set _ _) next refl j;
            },
          )),
      record {
        writes_back = tt;
        value = sym c.item_in_slot_mut.ensures.value ∙ read.item;
        found = (λ _. omega (arith, c.if-self-len.true, c.len.ensures.len), λ _. refl);
        keyed = λ keyed w same. subst (λ items. IsKeyed key g.T.Key.PartialEq.eq input hash (record m { items = items })) (read.written w) (keyed_written key input hash m keyed slot x w at g.met.T.Key.Eq.laws g.met.T.Key.Hash.respects_eq same);
        keyed_akin = λ keyed w akin. subst (λ items. IsKeyed key g.T.Key.PartialEq.eq input hash (record m { items = items })) (read.written w) (keyed_akin_written key input hash m keyed slot x w at g.met.T.Key.Eq.laws g.met.T.Key.Hash.respects_eq akin);
      },
    )

pub returns-else-self-len : goal.returns-else-self-len
returns-else-self-len g c =
    let walk = c.args.self.now in (
      ap (λ q. inr (record walk { from = q })) (ℕ_set _ _ _ _),
      record {
        writes_back = tt;
        value = sym (slice_get_past (walk.map.now.items) walk.done (omega (arith, c.if-self-len.false, c.len.ensures.len)));
        found = search rules;
        keyed = λ _. tt;
        keyed_akin = λ _. tt;
      },
    )

pub overflow_add-self : goal.overflow_add-self
overflow_add-self g c = search rules

pub overflow_add-self-then-self-len : goal.overflow_add-self-then-self-len
overflow_add-self-then-self-len g c = search rules
