use Rattle.std.proofs.lemmas.Cmp.{nat_cmp_total}
use Rattle.std.proofs.Common.{ℕ, map, Err, sym, ap, ◌∙◌, subst, nat_cmp}
use Rattle.std.specs.List.{insert}
use Rattle.iddqd_ord_index.specs.Listed.{listed_items}
use Rattle.iddqd_ord_index.specs.Search.{IsPlaceAmong}
use Rattle.test_core.specs.declared.ord_index.Coin.{Coin}
use Rattle.test_core.specs.InOrder.{InOrder}
use Rattle.test_core.proofs.InOrderLemmas.{in_order_added, in_order_roomier}
use Rattle.test_core.proofs.ord_index.Coins.put.Goals as goal

abbrev year : Coin → ℕ
year coin = coin.year

pub invariant_of-self-2 : goal.invariant_of-self-2
invariant_of-self-2 c =
    let slots = c.self.inside.index.slots in
    let room = c.try_reserve.new.self in
    let put = c.insert_reserved-slot in
    let coin : Coin = record { year = c.args.year } in
    let kept = in_order_roomier year nat_cmp c.self.inside.store room slots room.capacity c.try_reserve.ensures.rest c.self.invariant in
    let at = subst (λ s. IsPlaceAmong (nat_cmp c.args.year) (map year (listed_items s slots)) (Err c.in-Err.place)) (sym c.try_reserve.ensures.rest) c.in-Err.ensures.place in
    let more = ap (λ l. insert l c.in-Err.place put.result) (ap (λ i. i.slots) c.in-Ok.ensures.ok) in
    let added = sym (ap (λ i. i.slots) c.add_prepared.ensures ∙ more) in
    subst (InOrder year nat_cmp put.new.self) added (in_order_added year nat_cmp nat_cmp_total room put.new.self slots put.result c.in-Err.place coin kept put.ensures.was_vacant put.ensures.updates at)
