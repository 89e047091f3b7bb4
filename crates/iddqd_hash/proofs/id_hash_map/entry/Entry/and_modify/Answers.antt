use Rattle.std.proofs.Common.{◌≡◌, ◌∙◌, Some, ap, subst, sym, true, rules}
use Rattle.std.specs.Option.{IfSome, option_map}
use Rattle.iddqd_store.specs.Hashing.{hash_under}
use Rattle.iddqd_store.proofs.WrittenLemmas.{others_written, read_back, written_twice}
use Rattle.iddqd_hash_parts.specs.HashItems.{IsKeyed, KeyedItems}
use Rattle.iddqd_hash_parts.proofs.GetMutLemmas.{keyed_akin_written}
use Rattle.iddqd_hash.specs.Entry.{entry_item, entry_map, entry_others, entry_with}
use Rattle.iddqd_hash.proofs.id_hash_map.entry.Entry.and_modify.Goals as goal

pub returns-in-Occupied-clause-visited : goal.returns-in-Occupied-clause-visited
returns-in-Occupied-clause-visited g c =
    let e = c.in-Occupied.entry in
    let is = c.in-Occupied.is in
    let visits = λ (x : g.row.T.Denot). (g.V.Visit.visits c.args.visitor.now x).1 in
    let there = ap entry_item is ∙ c.get_mut.ensures.value in
    let some = sym there in
    record {
      item = read_back e.map.now.slots e.map.now.items e.slot c.visit.new.item e.there
          ∙ ap (λ p. Some p.1) (sym c.visit.ensures)
          ∙ ap (option_map visits) (sym c.get_mut.ensures.value)
          ∙ ap (λ s. option_map visits (entry_item s)) (sym is);
      map = search rules;
      visitor = search rules;
      unchanged = search rules;
      unvisited = search rules;
      written = λ w. ap (λ xs. record e.map.now { items = xs }) (written_twice e.map.now.slots e.map.now.items e.slot c.visit.new.item w)
          ∙ ap (λ s. entry_with s w) (sym is);
      others = others_written e.map.now.slots e.map.now.items e.slot c.visit.new.item ∙ ap entry_others (sym is);
    }

pub returns-in-Occupied-clause-keyed : goal.returns-in-Occupied-clause-keyed
unfolding IsKeyed
returns-in-Occupied-clause-keyed g c =
    let e = c.in-Occupied.entry in
    let key = g.T.IdHashItem.key in
    let eq = g.T.Key.PartialEq.eq in
    let x = c.get_mut.result.now in
    let visits = λ (x : g.row.T.Denot). (g.V.Visit.visits c.args.visitor.now x).1 in
    let there = ap entry_item c.in-Occupied.is ∙ c.get_mut.ensures.value in
    let kept : eq (key x) (key (visits x)) ≡ true = subst (λ o. IfSome o (λ y. eq (key y) (key (visits y)) ≡ true)) there c.requires.keeps_key in
    let akin : eq (key x) (key c.visit.new.item) ≡ true = ap (λ p. eq (key x) (key p.1)) (sym c.visit.ensures) ∙ kept in
    let keyed = subst (λ s. KeyedItems key eq g.T.Key.Hash.hash_input (hash_under g.S.BuildHasher g.S.Hasher.Hasher) (entry_map s)) c.in-Occupied.is c.requires.keyed in
    keyed_akin_written key g.T.Key.Hash.hash_input (hash_under g.S.BuildHasher g.S.Hasher.Hasher) e.map.now keyed e.slot x c.visit.new.item c.get_mut.ensures.value g.met.T.Key.Eq.laws g.met.T.Key.Hash.respects_eq akin
