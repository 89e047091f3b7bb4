use Rattle.std.proofs.Common.{◌∙◌, sym, ap, refl}
use Rattle.iddqd_store.specs.Hashing.{hash_under}
use Rattle.iddqd_store.proofs.WrittenLemmas.{written_found}
use Rattle.iddqd_bi_hash.specs.BiHashItems.{differ_by_key1}
use Rattle.iddqd_bi_hash.proofs.BothLemmas.{read1, read2, written_akin, written_same}
use Rattle.iddqd_bi_hash.proofs.bi_hash_map.BiHashMap.get_mut_unique.Goals as goal

pub slot_by_both-requires-clause-hash : goal.slot_by_both-requires-clause-hash
slot_by_both-requires-clause-hash g c k stands =
    let hash = hash_under g.S.BuildHasher g.S.Hasher.Hasher in
    ap (λ v. hash v.hasher (g.T.K1.Hash.hash_input k)) (sym c.self.view_is) ∙ ap (hash c.self.inside.hasher) (sym (c.requires.hashes k stands)) ∙ sym c.hash_one-hash.ensures

pub invariant_of-result : goal.invariant_of-result
invariant_of-result g c = record { there = c.in_ok-slot.ensures.first.there }

pub returns : goal.returns
returns g c =
    let now = c.args.self.now in
    let slot = c.in_ok-slot.slot in
    let found = c.in_ok-slot.ensures.first in
    let respects1 = g.met.T.K1.Hash.respects_eq in
    let respects2 = g.met.T.K2.Hash.respects_eq in (
      (refl, λ w. refl, tt),
      record {
        unchanged_at_none = tt;
        absent = tt;
        same_map = refl;
        lent = refl;
        found = sym c.in_ok-slot.ensures.both;
        written = λ w. written_found g.T.BiHashItem.key1 g.met.T.K1.Eq.laws (g.Q.Equivalent.equivalent c.args.query1.now) (g.met.Q.Equivalent.one_key c.args.query1.now) now.slots now.items (differ_by_key1 _ _ _ _ _ _ _ now c.requires.keyed) slot w found.there (sym found.item);
        read1 = λ x w at akin. read1 _ _ _ _ _ _ _ now c.requires.keyed slot x at w g.met.T.K1.Eq.laws akin;
        read2 = λ x w at akin. read2 _ _ _ _ _ _ _ now c.requires.keyed slot x at w g.met.T.K2.Eq.laws akin;
        keyed = λ x w at same1 same2. written_same _ _ _ _ _ _ _ now c.requires.keyed slot x at w g.met.T.K1.Eq.laws g.met.T.K2.Eq.laws respects1 respects2 same1 same2;
        keyed_akin = λ x w at akin. written_akin _ _ _ _ _ _ _ now c.requires.keyed slot x at w g.met.T.K1.Eq.laws g.met.T.K2.Eq.laws respects1 respects2 akin.0 akin.1;
        spare_fits = c.in_ok-slot.ensures.spare_fits;
      },
    )
