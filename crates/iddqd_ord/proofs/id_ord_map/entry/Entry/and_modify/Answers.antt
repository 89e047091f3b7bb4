use Rattle.std.proofs.Common.{◌≡◌, ◌∙◌, Some, ap, subst, sym, true}
use Rattle.std.specs.Option.{IfNone, IfSome, option_map}
use Rattle.iddqd_store.specs.Contents.{Ascends}
use Rattle.iddqd_store.proofs.WrittenLemmas.{akin_key_kept, others_written, read_back, written_twice}
use Rattle.iddqd_ord.specs.Entry.{entry_item, entry_map, entry_others, entry_with}
use Rattle.iddqd_ord.specs.Guard.{with_item_in_slot}
use Rattle.iddqd_ord.proofs.id_ord_map.entry.Entry.and_modify.Goals as goal

pub returns-in-Occupied-clause-visited : goal.returns-in-Occupied-clause-visited
returns-in-Occupied-clause-visited g c =
    let e = c.in-Occupied.entry in
    let visits = λ (x : g.row.T.Denot). g.V.Visit.visits c.args.visitor.now x in
    let item = c.visit.new.item in
    let there = ap entry_item c.in-Occupied.is ∙ c.get_mut.ensures.value in
    record {
      item = read_back e.map.now.slots e.map.now.items e.slot item e.there
          ∙ ap (λ p. Some p.1) (sym c.visit.ensures)
          ∙ ap (option_map (λ x. (visits x).1)) (sym there);
      map = subst (λ o. IfSome o (λ x. with_item_in_slot e.map.now e.slot item ≡ entry_with c.args.self (visits x).1)) (sym there)
          (ap (with_item_in_slot e.map.now e.slot) (ap (λ p. p.1) (sym c.visit.ensures)) ∙ ap (λ s. entry_with s (visits c.get_mut.result.now).1) (sym c.in-Occupied.is));
      visitor = subst (λ o. IfSome o (λ x. c.visit.new.self ≡ (visits x).0)) (sym there) (ap (λ p. p.0) (sym c.visit.ensures));
      unchanged = subst (λ o. IfNone o (with_item_in_slot e.map.now e.slot item ≡ entry_map c.args.self)) (sym there) tt;
      unvisited = subst (λ o. IfNone o (c.visit.new.self ≡ c.args.visitor.now)) (sym there) tt;
      written = λ w. ap (λ xs. record e.map.now { items = xs }) (written_twice e.map.now.slots e.map.now.items e.slot item w)
          ∙ ap (λ s. entry_with s w) (sym c.in-Occupied.is);
      others = others_written e.map.now.slots e.map.now.items e.slot item ∙ ap entry_others (sym c.in-Occupied.is);
    }

pub returns-in-Occupied-clause-keyed : goal.returns-in-Occupied-clause-keyed
returns-in-Occupied-clause-keyed g c =
    let e = c.in-Occupied.entry in
    let key = g.T.IdOrdItem.key in
    let eq = g.T.Key.PartialEq.eq in
    let x = c.get_mut.result.now in
    let visits = λ (x : g.row.T.Denot). (g.V.Visit.visits c.args.visitor.now x).1 in
    let there = ap entry_item c.in-Occupied.is ∙ c.get_mut.ensures.value in
    let kept : eq (key x) (key (visits x)) ≡ true = subst (λ o. IfSome o (λ y. eq (key y) (key (visits y)) ≡ true)) there c.requires.keeps_key in
    let akin : eq (key x) (key c.visit.new.item) ≡ true = ap (λ p. eq (key x) (key p.1)) (sym c.visit.ensures) ∙ kept in
    akin_key_kept key e.map.now.slots e.map.now.items e.slot x c.visit.new.item c.get_mut.ensures.value g.met.T.Key.Eq.laws akin g.met.T.Key.Ord.total g.met.T.Key.Ord.matches_eq
    (subst (λ s. Ascends key g.T.Key.Ord.cmp (entry_map s).items) c.in-Occupied.is c.requires.keyed)
