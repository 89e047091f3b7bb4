use Rattle.std.proofs.Common.{◌∙◌, sym, ap, refl}
use Rattle.iddqd_store.specs.Hashing.{hash_under}
use Rattle.iddqd_store.proofs.WrittenLemmas.{written_found}
use Rattle.iddqd_hash_parts.specs.HashItems.{IsKeyed}
use Rattle.iddqd_hash_parts.proofs.GetMutLemmas.{keyed_akin_written, keyed_written}
use Rattle.iddqd_hash.proofs.id_hash_map.IdHashMap.get_mut.Goals as goal

pub slot_by_key-requires-clause-hash : goal.slot_by_key-requires-clause-hash
slot_by_key-requires-clause-hash g c k stands =
    let hash = hash_under g.S.BuildHasher g.S.Hasher.Hasher in
    ap (λ v. hash v.hasher (g.T.Key.Hash.hash_input k)) (sym c.self.view_is) ∙ ap (hash c.self.inside.hasher) (sym (c.requires.hashes k stands)) ∙ sym c.hash_one-hash.ensures

pub invariant_of-result : goal.invariant_of-result
invariant_of-result g c = record { there = c.in_ok-slot.ensures.slot.there }

pub returns : goal.returns
unfolding IsKeyed
returns g c =
    let now = c.args.self.now in
    let key = g.T.IdHashItem.key in
    let equivalence = g.met.T.Key.Eq.laws in
    let respects = g.met.T.Key.Hash.respects_eq in
    let input = g.T.Key.Hash.hash_input in
    let hash = hash_under g.S.BuildHasher g.S.Hasher.Hasher in
    let slot = c.in_ok-slot.slot in
    let found = c.in_ok-slot.ensures.slot in (
      (refl, λ w. refl, tt),
      record {
        unchanged_at_none = tt;
        absent = tt;
        same_map = refl;
        lent = refl;
        found = sym found.item;
        written = λ w. written_found key equivalence (g.Q.Equivalent.equivalent c.args.query.now) (g.met.Q.Equivalent.one_key c.args.query.now) now.slots now.items c.requires.keyed.differ slot w found.there (sym found.item);
        keyed = λ x w at same. keyed_written key input hash now c.requires.keyed slot x w at equivalence respects same;
        keyed_akin = λ x w at akin. keyed_akin_written key input hash now c.requires.keyed slot x w at equivalence respects akin;
        spare_fits = c.in_ok-slot.ensures.spare_fits;
      },
    )
