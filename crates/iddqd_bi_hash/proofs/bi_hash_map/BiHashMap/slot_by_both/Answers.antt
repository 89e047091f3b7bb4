use Rattle.std.proofs.Common.{◌∙◌, cond, Some, None, sym, ap}
use Rattle.std.specs.Option.{option_and_then}
use Rattle.iddqd_store.specs.SlotItems.{item_of_slot}
use Rattle.iddqd_bi_hash.specs.BiHashItems.{differ_by_key1}
use Rattle.iddqd_bi_hash.proofs.UniqueLemmas.{both_found}
use Rattle.iddqd_bi_hash.proofs.bi_hash_map.BiHashMap.slot_by_both.Goals as goal

pub returns-in_err-slot-clause-both : goal.returns-in_err-slot-clause-both
returns-in_err-slot-clause-both g c =
    let key2 = g.T.BiHashItem.key2 in
    let test2 = g.R.Equivalent.equivalent c.args.query2.now in
    ap (option_and_then (item_of_slot c.args.self.now.slots c.args.self.now.items)) c.from_residual.ensures
    ∙ sym (both_found g.T.BiHashItem.key1 key2 (g.Q.Equivalent.equivalent c.args.query1.now) (g.met.Q.Equivalent.one_key c.args.query1.now) test2 c.args.self.now.items (differ_by_key1 _ _ _ _ _ _ _ c.args.self.now c.requires.keyed)
    ∙ ap (option_and_then (λ x. cond (test2 (key2 x)) (Some x) None)) (sym c.in_err-slot.ensures.slot.item))

pub returns-then-equivalent-clause-both : goal.returns-then-equivalent-clause-both
returns-then-equivalent-clause-both g c =
    let key2 = g.T.BiHashItem.key2 in
    let test2 = g.R.Equivalent.equivalent c.args.query2.now in
    let x = c.item_in_slot.result.now in
    c.item_in_slot.ensures
    ∙ sym (both_found g.T.BiHashItem.key1 key2 (g.Q.Equivalent.equivalent c.args.query1.now) (g.met.Q.Equivalent.one_key c.args.query1.now) test2 c.args.self.now.items (differ_by_key1 _ _ _ _ _ _ _ c.args.self.now c.requires.keyed)
    ∙ ap (option_and_then (λ y. cond (test2 (key2 y)) (Some y) None)) (sym c.in_ok-slot.ensures.slot.item ∙ c.item_in_slot.ensures)
    ∙ ap (λ b. cond b (Some x) None) (ap test2 (sym c.key2.ensures) ∙ sym c.equivalent.ensures ∙ c.if-equivalent.true))

pub returns-else-equivalent-clause-both : goal.returns-else-equivalent-clause-both
returns-else-equivalent-clause-both g c =
    let key2 = g.T.BiHashItem.key2 in
    let test2 = g.R.Equivalent.equivalent c.args.query2.now in
    let x = c.item_in_slot.result.now in
    sym (both_found g.T.BiHashItem.key1 key2 (g.Q.Equivalent.equivalent c.args.query1.now) (g.met.Q.Equivalent.one_key c.args.query1.now) test2 c.args.self.now.items (differ_by_key1 _ _ _ _ _ _ _ c.args.self.now c.requires.keyed)
    ∙ ap (option_and_then (λ y. cond (test2 (key2 y)) (Some y) None)) (sym c.in_ok-slot.ensures.slot.item ∙ c.item_in_slot.ensures)
    ∙ ap (λ b. cond b (Some x) None) (ap test2 (sym c.key2.ensures) ∙ sym c.equivalent.ensures ∙ c.if-equivalent.false))
