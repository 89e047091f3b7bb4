use Rattle.std.proofs.Common.{ℕ, sym, ap, subst, arith, nat_cmp}
use Rattle.iddqd_ord_index.proofs.PartLemmas.{without_part}
use Rattle.test_core.specs.declared.ord_index.Coin.{Coin}
use Rattle.test_core.specs.InOrder.{InOrder}
use Rattle.test_core.proofs.InOrderLemmas.{in_order_removed}
use Rattle.test_core.proofs.ord_index.Coins.cut.Goals as goal

abbrev year : Coin → ℕ
year coin = coin.year

pub invariant_of-self : goal.invariant_of-self
invariant_of-self c =
    let left = sym (ap (λ i. i.slots) c.remove_between.ensures) in
    let holds = InOrder year nat_cmp c.self.inside.store in
    subst holds left (without_part holds (in_order_removed year nat_cmp c.self.inside.store) c.place-from.result c.place-to.result c.self.inside.index.slots (omega (arith, c.place-from.ensures, c.place-to.ensures, c.if-from-to.false)) c.self.invariant)
