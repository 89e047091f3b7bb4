use Rattle.std.proofs.Common.{ℕ, ap, nat_cmp}
use Rattle.test_core.specs.declared.ord_index.Coin.{Coin}
use Rattle.test_core.proofs.InOrderLemmas.{in_order_empty}
use Rattle.test_core.proofs.ord_index.Coins.clear.Goals as goal

abbrev year : Coin → ℕ
year coin = coin.year

pub invariant_of-self : goal.invariant_of-self
invariant_of-self c = in_order_empty year nat_cmp c.self.inside.store _ (ap (λ i. i.slots) c.clear.ensures)
