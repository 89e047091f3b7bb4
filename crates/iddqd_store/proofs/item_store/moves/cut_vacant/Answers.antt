use Rattle.std.proofs.Common.{◌≡◌, ◌-◌, suc, length, take, IsSome, ◌∙◌, sym, ap, subst, arith}
use Rattle.std.proofs.lemmas.Grind.{common_steps}
use Rattle.std.proofs.lemmas.List.{with_items_is}
use Rattle.iddqd_store.specs.Slots.{items_of, links_at, links_without, IsChained, SameSlots}
use Rattle.iddqd_store.proofs.ChainLemmas.{IsChained-along}
use Rattle.iddqd_store.proofs.SlotLemmas.{vacant_within, links-front, vacant_no_item, SameSlots-front}
use Rattle.iddqd_store.proofs.item_store.moves.cut_vacant.Goals as goal

pub loop-slots-preserved : goal.loop-slots-preserved
loop-slots-preserved g c =
    let ws = c.unlink-first.new.slots in
    let v = c.loop-slots.slots in
    let n = v.len - 1 in
    let at_is : c.len-at.result - 1 ≡ n = ap (λ k. k - 1) c.len-at.ensures in
    let links = subst (λ k. IsSome (links_at ws k)) at_is c.unlink-first.ensures.vacant in
    let same : length ws ≡ v.len = omega arith in
    let long : length ws ≡ suc n = omega (arith, vacant_within ws n links) in
    let whole = with_items_is v ws same in
    let rest = rw whole at c.pop.ensures.rest in
    let kept = c.loop-slots.invariant in
    let items = c.unlink-first.ensures.items ∙ ap items_of c.as_mut_slice.ensures.value in
    record {
      chained = rw rest (IsChained-along (links_without (links_at ws) n) (links_at (take n ws)) c.unlink-first.result (links-front ws n long) (subst (λ k. IsChained (links_without (links_at ws) k) c.unlink-first.result) at_is c.unlink-first.ensures.chained));
      items = rw rest (SameSlots-front _ ws n long (vacant_no_item ws n links) (subst (SameSlots (items_of c.args.slots.now.items)) (sym items) kept.items));
      shorter = omega (arith, kept.shorter);
      capacity = c.pop.ensures.capacity ∙ kept.capacity;
    }

pub unlink-first-requires-clause-vacant : goal.unlink-first-requires-clause-vacant
unlink-first-requires-clause-vacant g c = grind (arith, common_steps)

pub unreachable-requires : goal.unreachable-requires
unreachable-requires g c = grind (arith, common_steps)

pub returns-in_default-clause-ends : goal.returns-in_default-clause-ends
returns-in_default-clause-ends g c = grind (arith, common_steps)
