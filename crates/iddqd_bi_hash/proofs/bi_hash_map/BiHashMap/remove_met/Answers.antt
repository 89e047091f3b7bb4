use Rattle.std.proofs.Common.{◌∙◌, ◌++◌, length, is_some, sym, ap, arith}
use Rattle.iddqd_store.specs.Hashing.{hash_under}
use Rattle.iddqd_store.specs.Contents.{find_item, items_without}
use Rattle.iddqd_bi_hash.specs.TwoKeys.{as_list}
use Rattle.iddqd_bi_hash.proofs.BothLemmas.{stays_on}
use Rattle.iddqd_bi_hash.proofs.DisplacedLemmas.{as_many, as_vacant, at_none, at_some, if_none, never_more, one_less, unmet_twice, weaker_none}
use Rattle.iddqd_bi_hash.proofs.bi_hash_map.BiHashMap.remove_met.Goals as goal

pub remove_hashed1-one-requires-clause-hash : goal.remove_hashed1-one-requires-clause-hash
remove_hashed1-one-requires-clause-hash g c k stands =
    let hash = hash_under g.S.BuildHasher g.S.Hasher.Hasher c.args.self.now.hasher in
    ap hash (sym (g.met.T.K1.Hash.respects_eq c.key1.result.now k stands) ∙ ap g.T.K1.Hash.hash_input c.key1.ensures) ∙ sym c.requires.hashes.one

pub remove_hashed2-other-requires-clause-hash : goal.remove_hashed2-other-requires-clause-hash
remove_hashed2-other-requires-clause-hash g c k stands =
    let hash = hash_under g.S.BuildHasher g.S.Hasher.Hasher in
    ap (λ s. hash s (g.T.K2.Hash.hash_input k)) c.remove_hashed1-one.ensures.stays.hasher
    ∙ ap (hash c.args.self.now.hasher) (sym (g.met.T.K2.Hash.respects_eq c.key2.result.now k stands) ∙ ap g.T.K2.Hash.hash_input c.key2.ensures) ∙ sym c.requires.hashes.other

pub returns-clause-displaced : goal.returns-clause-displaced
returns-clause-displaced g c =
    let key1 = g.T.BiHashItem.key1 in
    let key2 = g.T.BiHashItem.key2 in
    let eq1 = g.T.K1.PartialEq.eq in
    let eq2 = g.T.K2.PartialEq.eq in
    let old = c.args.self.now in
    c.few_from_options.ensures
    ∙ ap (λ o. as_list o ++ as_list c.remove_hashed2-other.result) (c.remove_hashed1-one.ensures.value ∙ ap (λ k. find_item key1 (eq1 k) old.items) c.key1.ensures)
    ∙ ap (λ o. as_list (find_item key1 (eq1 (key1 c.args.item.now)) old.items) ++ as_list o)
    (c.remove_hashed2-other.ensures.value ∙ ap (λ k. find_item key2 (eq2 k) c.remove_hashed1-one.new.self.items) c.key2.ensures
    ∙ ap (find_item key2 (eq2 (key2 c.args.item.now))) (c.remove_hashed1-one.ensures.items ∙ ap (λ k. items_without key1 (eq1 k) old.items) c.key1.ensures))

pub returns-clause-items : goal.returns-clause-items
returns-clause-items g c =
    let key1 = g.T.BiHashItem.key1 in
    let key2 = g.T.BiHashItem.key2 in
    let eq1 = g.T.K1.PartialEq.eq in
    let eq2 = g.T.K2.PartialEq.eq in
    let old = c.args.self.now in
    let x = c.args.item.now in
    c.remove_hashed2-other.ensures.items ∙ ap (λ k. items_without key2 (eq2 k) c.remove_hashed1-one.new.self.items) c.key2.ensures
    ∙ ap (items_without key2 (eq2 (key2 x))) (c.remove_hashed1-one.ensures.items ∙ ap (λ k. items_without key1 (eq1 k) old.items) c.key1.ensures)
    ∙ unmet_twice (λ y. eq1 (key1 x) (key1 y)) (λ y. eq2 (key2 x) (key2 y)) old.items

pub returns-clause-unchanged : goal.returns-clause-unchanged
returns-clause-unchanged g c =
    at_none c.few_from_options.result c.remove_hashed1-one.result c.remove_hashed2-other.result c.few_from_options.ensures
    (λ e f. if_none c.remove_hashed2-other.result f c.remove_hashed2-other.ensures.unchanged ∙ if_none c.remove_hashed1-one.result e c.remove_hashed1-one.ensures.unchanged)

pub returns-clause-room : goal.returns-clause-room
returns-clause-room g c =
    let old = c.args.self.now in
    let mid = c.remove_hashed1-one.new.self in
    let first = c.remove_hashed1-one.ensures in
    let second = c.remove_hashed2-other.ensures in
    let p = λ (y : g.row.T.Denot). g.T.K1.PartialEq.eq c.key1.result.now (g.T.BiHashItem.key1 y) in
    let q = λ (y : g.row.T.Denot). g.T.K2.PartialEq.eq c.key2.result.now (g.T.BiHashItem.key2 y) in
    at_some c.few_from_options.result c.remove_hashed1-one.result c.remove_hashed2-other.result c.few_from_options.ensures
    (λ some. omega (arith, one_less p old.items (ap is_some (sym first.value) ∙ some), ap length first.items, never_more q mid.items, ap length second.items, first.stays.spare.never_less, second.stays.spare.never_less))
    (λ some. omega (arith, never_more p old.items, ap length first.items, one_less q mid.items (ap is_some (sym second.value) ∙ some), ap length second.items, first.stays.spare.never_less, second.stays.spare.never_less))

pub returns-clause-vacant : goal.returns-clause-vacant
returns-clause-vacant g c =
    let old = c.args.self.now in
    let mid = c.remove_hashed1-one.new.self in
    let new = c.remove_hashed2-other.new.self in
    let first = as_many old.vacant mid.vacant c.remove_hashed1-one.result c.remove_hashed1-one.ensures.removed.vacant (weaker_none c.remove_hashed1-one.result (λ e. ap (λ v. v.vacant) e) c.remove_hashed1-one.ensures.unchanged) in
    let second = as_many mid.vacant new.vacant c.remove_hashed2-other.result c.remove_hashed2-other.ensures.removed.vacant (weaker_none c.remove_hashed2-other.result (λ e. ap (λ v. v.vacant) e) c.remove_hashed2-other.ensures.unchanged) in
    as_vacant old.vacant new.vacant c.few_from_options.result c.remove_hashed1-one.result c.remove_hashed2-other.result c.few_from_options.ensures (omega (arith, first, second))

pub returns-clause-stays : goal.returns-clause-stays
returns-clause-stays g c = stays_on _ c.args.self.now c.remove_hashed1-one.new.self c.remove_hashed2-other.new.self c.remove_hashed1-one.ensures.stays c.remove_hashed2-other.ensures.stays
