use Rattle.std.proofs.Common.{ℕ, sym, ap, subst, nat_cmp}
use Rattle.test_core.specs.declared.ord_index.Coin.{Coin}
use Rattle.test_core.specs.InOrder.{InOrder}
use Rattle.test_core.proofs.InOrderLemmas.{in_order_removed}
use Rattle.test_core.proofs.ord_index.Coins.take_first.Goals as goal

abbrev year : Coin → ℕ
year coin = coin.year

pub invariant_of-self : goal.invariant_of-self
invariant_of-self c =
    let left = sym (ap (λ i. i.slots) c.remove_first-slot.ensures.after) in
    subst (InOrder year nat_cmp c.self.inside.store) left (in_order_removed year nat_cmp c.self.inside.store c.self.inside.index.slots 0 c.self.invariant)
