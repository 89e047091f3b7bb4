use Rattle.std.proofs.Common.{◌≡◌, ◌∙◌, sym, ap, true}
use Rattle.iddqd_bi_hash.proofs.BothLemmas.{written_akin}
use Rattle.iddqd_bi_hash.proofs.bi_hash_map.BiHashMap.visit_slot.Goals as goal

pub returns-clause-keyed : goal.returns-clause-keyed
returns-clause-keyed g c =
    let key1 = g.T.BiHashItem.key1 in
    let key2 = g.T.BiHashItem.key2 in
    let eq1 = g.T.K1.PartialEq.eq in
    let eq2 = g.T.K2.PartialEq.eq in
    let x = c.item_in_slot_mut.result.now in
    let akin1 : eq1 (key1 x) (key1 c.visit.new.item) ≡ true = ap (λ p. eq1 (key1 x) (key1 p.1)) (sym c.visit.ensures) ∙ c.requires.keeps_keys1 c.args.visitor.now x in
    let akin2 : eq2 (key2 x) (key2 c.visit.new.item) ≡ true = ap (λ p. eq2 (key2 x) (key2 p.1)) (sym c.visit.ensures) ∙ c.requires.keeps_keys2 c.args.visitor.now x in
    written_akin _ _ _ _ _ _ _ c.args.self.now c.requires.keyed c.args.slot x c.item_in_slot_mut.ensures.value c.visit.new.item g.met.T.K1.Eq.laws g.met.T.K2.Eq.laws g.met.T.K1.Hash.respects_eq g.met.T.K2.Hash.respects_eq akin1 akin2
