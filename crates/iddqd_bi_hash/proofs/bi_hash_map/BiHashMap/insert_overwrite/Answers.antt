use Rattle.std.proofs.Common.{◌∙◌, ap, rules, subst}
use Rattle.iddqd_store.specs.Contents.{AddsItem}
use Rattle.iddqd_bi_hash.specs.BiHashItems.{differ_by_key1, differ_by_key2}
use Rattle.iddqd_bi_hash.specs.TwoKeys.{has_one_of_keys, items_met}
use Rattle.iddqd_bi_hash.proofs.DisplacedLemmas.{gone_by_key1, gone_by_key2, none_left, there_by_key1, there_by_key2}
use Rattle.iddqd_bi_hash.proofs.bi_hash_map.BiHashMap.insert_overwrite.Goals as goal

pub insert_hashed-requires-clause-absent : goal.insert_hashed-requires-clause-absent
insert_hashed-requires-clause-absent g c =
    let x = c.args.item in
    ap (items_met g.T.BiHashItem.key1 g.T.BiHashItem.key2 g.T.K1.PartialEq.eq g.T.K2.PartialEq.eq x) c.remove_met.ensures.items
    ∙ none_left (has_one_of_keys g.T.BiHashItem.key1 g.T.BiHashItem.key2 g.T.K1.PartialEq.eq g.T.K2.PartialEq.eq x) c.args.self.now.items

pub insert_reserved-requires-clause-absent : goal.insert_reserved-requires-clause-absent
insert_reserved-requires-clause-absent g c =
    let x = c.args.item in
    ap (items_met g.T.BiHashItem.key1 g.T.BiHashItem.key2 g.T.K1.PartialEq.eq g.T.K2.PartialEq.eq x) c.remove_met.ensures.items
    ∙ none_left (has_one_of_keys g.T.BiHashItem.key1 g.T.BiHashItem.key2 g.T.K1.PartialEq.eq g.T.K2.PartialEq.eq x) c.args.self.now.items

pub returns-in-Some-clause-put : goal.returns-in-Some-clause-put
returns-in-Some-clause-put g c =
    let key1 = g.T.BiHashItem.key1 in
    let key2 = g.T.BiHashItem.key2 in
    let laws1 = g.met.T.K1.Eq.laws in
    let laws2 = g.met.T.K2.Eq.laws in
    let x = c.args.item in
    let old = c.args.self.now in
    let new = c.insert_reserved.new.self in
    let put = subst (λ items. AddsItem x items new.items) c.remove_met.ensures.items c.insert_reserved.ensures.inserted.inserts.added in
    let there1 = there_by_key1 key1 key2 laws1 laws2 x old.items new.items put in
    let there2 = there_by_key2 key1 key2 laws1 laws2 x old.items new.items put in
    let gone1 = gone_by_key1 key1 key2 laws1 laws2 x old.items new.items put (differ_by_key1 _ _ _ _ _ _ _ old c.requires.keyed) in
    let gone2 = gone_by_key2 key1 key2 laws1 laws2 x old.items new.items put (differ_by_key2 _ _ _ _ _ _ _ old c.requires.keyed) in
    search rules

pub returns-in_ok-insert_hashed-in-None-clause-put : goal.returns-in_ok-insert_hashed-in-None-clause-put
returns-in_ok-insert_hashed-in-None-clause-put g c =
    let key1 = g.T.BiHashItem.key1 in
    let key2 = g.T.BiHashItem.key2 in
    let laws1 = g.met.T.K1.Eq.laws in
    let laws2 = g.met.T.K2.Eq.laws in
    let x = c.args.item in
    let old = c.args.self.now in
    let new = c.insert_hashed.new.self in
    let put = subst (λ items. AddsItem x items new.items) c.remove_met.ensures.items c.in_ok-insert_hashed-in-None.ensures.inserted.inserts.added in
    let there1 = there_by_key1 key1 key2 laws1 laws2 x old.items new.items put in
    let there2 = there_by_key2 key1 key2 laws1 laws2 x old.items new.items put in
    let gone1 = gone_by_key1 key1 key2 laws1 laws2 x old.items new.items put (differ_by_key1 _ _ _ _ _ _ _ old c.requires.keyed) in
    let gone2 = gone_by_key2 key1 key2 laws1 laws2 x old.items new.items put (differ_by_key2 _ _ _ _ _ _ _ old c.requires.keyed) in
    search rules
