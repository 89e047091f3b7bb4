use Rattle.std.proofs.Common.{◌∙◌, None, ap, cond, refl, subst, sym, true≢false}
use Rattle.iddqd_store.specs.Hashing.{hash_under}
use Rattle.iddqd_store.specs.SlotItems.{item_of_slot}
use Rattle.iddqd_bi_hash.specs.BiHashItems.{IsKeyedByBoth}
use Rattle.iddqd_bi_hash.specs.Entry.{Occupied, entry_is_unique, entry_item, entry_items, entry_lender, entry_map, entry_with}
use Rattle.iddqd_bi_hash.proofs.BothLemmas.{written_akin, written_same}
use Rattle.iddqd_bi_hash.proofs.EntryLemmas.{has_items, same_entry}
use Rattle.iddqd_bi_hash.proofs.bi_hash_map.entry.Entry.or_insert_with.Goals as goal

pub returns-then-unique : goal.returns-then-unique
returns-then-unique g c =
    let e = c.in-Occupied.entry in
    let is = c.in-Occupied.is in
    let one = c.if-unique.true in
    let keyed = subst (λ s. IsKeyedByBoth g.T.BiHashItem.key1 g.T.BiHashItem.key2 g.T.K1.PartialEq.eq g.T.K2.PartialEq.eq g.T.K1.Hash.hash_input g.T.K2.Hash.hash_input (hash_under g.S.BuildHasher g.S.Hasher.Hasher) (entry_map s)) is c.requires.keyed in
    let respects1 = g.met.T.K1.Hash.respects_eq in
    let respects2 = g.met.T.K2.Hash.respects_eq in (
      (refl, λ w. refl, tt),
      record {
        same_map = ap entry_lender (sym is);
        found = record {
          found = λ unique. record {
            map = ap entry_map (sym is);
            item = ap (λ b. cond b (item_of_slot e.map.now.slots e.map.now.items e.first) None) (sym one) ∙ ap entry_item (sym is);
            written = λ w. ap (λ s. entry_with s w) (sym is);
          };
          vacant = λ no. absurd (true≢false (sym one ∙ ap entry_is_unique (sym is) ∙ no));
        };
        inserted = λ none. absurd (has_items e.map.now.slots e.map.now.items e.first e.second e.there1 (ap entry_items (sym is) ∙ none));
        keyed = λ x w at same1 same2. written_same _ _ _ _ _ _ _ e.map.now keyed e.first x at w g.met.T.K1.Eq.laws g.met.T.K2.Eq.laws respects1 respects2 same1 same2;
        keyed_akin = λ x w at akin. written_akin _ _ _ _ _ _ _ e.map.now keyed e.first x at w g.met.T.K1.Eq.laws g.met.T.K2.Eq.laws respects1 respects2 akin.0 akin.1;
        kept = tt;
        vacant = tt;
        item = tt;
        refused = tt;
      },
    )

pub returns-in-Occupied : goal.returns-in-Occupied
returns-in-Occupied g c =
    let e = c.in-Occupied.entry in
    let is = c.in-Occupied.is in
    let two = ap entry_is_unique is ∙ c.if-unique.false in
    let keyed = subst (λ s. IsKeyedByBoth g.T.BiHashItem.key1 g.T.BiHashItem.key2 g.T.K1.PartialEq.eq g.T.K2.PartialEq.eq g.T.K1.Hash.hash_input g.T.K2.Hash.hash_input (hash_under g.S.BuildHasher g.S.Hasher.Hasher) (entry_map s)) is c.requires.keyed in (
      (refl, λ w. refl, tt),
      record {
        same_map = ap entry_lender (sym is);
        found = record { same = ap Occupied (same_entry e _ _ _) ∙ sym is; non_unique = two };
        inserted = two;
        keyed = keyed;
        keyed_akin = keyed;
        kept = tt;
        vacant = tt;
        item = tt;
        refused = tt;
      },
    )
