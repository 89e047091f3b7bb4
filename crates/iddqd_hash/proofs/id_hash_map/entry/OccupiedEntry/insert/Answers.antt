use Rattle.std.proofs.Common.{◌≡◌, ◌∙◌, Some, ap, subst, true}
use Rattle.std.specs.Option.{IfSome}
use Rattle.iddqd_store.specs.Hashing.{hash_under}
use Rattle.iddqd_store.proofs.WrittenLemmas.{others_written, read_back}
use Rattle.iddqd_hash_parts.proofs.GetMutLemmas.{keyed_akin_written}
use Rattle.iddqd_hash_parts.specs.HashItems.{IsKeyed}
use Rattle.iddqd_hash.proofs.id_hash_map.entry.OccupiedEntry.insert.Goals as goal

pub returns-clause-new : goal.returns-clause-new
returns-clause-new g c =
    let e = c.args.self.now in
    read_back e.map.now.slots e.map.now.items e.slot c.replace.new.dest e.there ∙ ap Some c.replace.ensures.after

pub returns-clause-others : goal.returns-clause-others
returns-clause-others g c =
    let e = c.args.self.now in
    others_written e.map.now.slots e.map.now.items e.slot c.replace.new.dest

pub returns-clause-keyed : goal.returns-clause-keyed
unfolding IsKeyed
returns-clause-keyed g c =
    let e = c.args.self.now in
    let key = g.T.IdHashItem.key in
    let eq = g.T.Key.PartialEq.eq in
    let x = c.get_mut.result.now in
    let equivalence = g.met.T.Key.Eq.laws in
    let akin : eq (key c.args.item) (key x) ≡ true = subst (λ o. IfSome o (λ y. eq (key c.args.item) (key y) ≡ true)) c.get_mut.ensures.value c.requires.akin in
    let put : eq (key x) (key c.replace.new.dest) ≡ true = ap (λ y. eq (key x) (key y)) c.replace.ensures.after ∙ equivalence.symm (key x) (key c.args.item) ∙ akin in
    keyed_akin_written key g.T.Key.Hash.hash_input (hash_under g.S.BuildHasher g.S.Hasher.Hasher) e.map.now c.requires.keyed e.slot x c.replace.new.dest c.get_mut.ensures.value equivalence g.met.T.Key.Hash.respects_eq put
