use Rattle.std.proofs.Common.{◌≡◌, ◌∙◌, None, ap, is_some, refl, subst, sym, true≢false, rules}
use Rattle.iddqd_store.specs.Contents.{Ascends}
use Rattle.iddqd_store.proofs.WrittenLemmas.{akin_key_kept, same_key_kept}
use Rattle.iddqd_ord.specs.Entry.{entry_item, entry_map, entry_lender, entry_with}
use Rattle.iddqd_ord.proofs.id_ord_map.entry.Entry.or_insert_with.Goals as goal

pub returns-in-Occupied : goal.returns-in-Occupied
returns-in-Occupied g c =
    let e = c.in-Occupied.found in
    let is = c.in-Occupied.is in
    let sorted = subst (λ s. Ascends g.T.IdOrdItem.key g.T.Key.Ord.cmp (entry_map s).items) is c.requires.keyed in
    let absurdly = λ (none : entry_item c.args.self ≡ None). true≢false (sym e.there ∙ ap (λ s. is_some (entry_item s)) (sym is) ∙ ap is_some none) in (
      (refl, λ w. refl, tt),
      record {
        kept = tt;
        same_map = ap entry_lender (sym is);
        found = λ some. record {
          map = ap entry_map (sym is);
          item = ap entry_item (sym is);
          written = λ w. ap (λ s. entry_with s w) (sym is);
        };
        inserted = λ none. absurd (absurdly none);
        keyed = λ x w at same. same_key_kept g.T.IdOrdItem.key e.map.now.slots e.map.now.items e.slot x w at g.T.Key.Ord.cmp same sorted;
        keyed_akin = λ x w at akin. akin_key_kept g.T.IdOrdItem.key e.map.now.slots e.map.now.items e.slot x w at g.met.T.Key.Eq.laws akin g.met.T.Key.Ord.total g.met.T.Key.Ord.matches_eq sorted;
        vacant = tt;
        item = tt;
        refused = tt;
      },
    )

pub invariant_of-self : goal.invariant_of-self
invariant_of-self g c = search rules

pub returns-in-Vacant : goal.returns-in-Vacant
returns-in-Vacant g c = search rules

pub make-requires : goal.make-requires
make-requires g c = search rules
