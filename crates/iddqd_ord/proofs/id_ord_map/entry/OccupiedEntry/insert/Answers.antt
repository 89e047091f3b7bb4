use Rattle.std.proofs.Common.{◌≡◌, ◌∙◌, Some, ap, subst, true}
use Rattle.std.specs.Option.{IfSome}
use Rattle.iddqd_store.proofs.WrittenLemmas.{akin_key_kept, others_written, read_back}
use Rattle.iddqd_ord.proofs.id_ord_map.entry.OccupiedEntry.insert.Goals as goal

pub returns-clause-new : goal.returns-clause-new
returns-clause-new g c =
    let e = c.args.self.now in
    read_back e.map.now.slots e.map.now.items e.slot c.replace.new.dest e.there ∙ ap Some c.replace.ensures.after

pub returns-clause-others : goal.returns-clause-others
returns-clause-others g c =
    let e = c.args.self.now in
    others_written e.map.now.slots e.map.now.items e.slot c.replace.new.dest

pub returns-clause-keyed : goal.returns-clause-keyed
returns-clause-keyed g c =
    let e = c.args.self.now in
    let key = g.T.IdOrdItem.key in
    let eq = g.T.Key.PartialEq.eq in
    let x = c.get_mut.result.now in
    let equivalence = g.met.T.Key.Eq.laws in
    let akin : eq (key c.args.item) (key x) ≡ true = subst (λ o. IfSome o (λ y. eq (key c.args.item) (key y) ≡ true)) c.get_mut.ensures.value c.requires.akin in
    let put : eq (key x) (key c.replace.new.dest) ≡ true = ap (λ y. eq (key x) (key y)) c.replace.ensures.after ∙ equivalence.symm (key x) (key c.args.item) ∙ akin in
    akin_key_kept key e.map.now.slots e.map.now.items e.slot x c.replace.new.dest c.get_mut.ensures.value equivalence put g.met.T.Key.Ord.total g.met.T.Key.Ord.matches_eq c.requires.keyed
