use Rattle.std.proofs.Common.{ℕ, ap, nat_cmp}
use Rattle.test_core.specs.declared.ord_index.Coin.{Coin}
use Rattle.test_core.proofs.InOrderLemmas.{in_order_empty}
use Rattle.test_core.proofs.ord_index.Coins.new.Goals as goal

abbrev year : Coin → ℕ
year coin = coin.year

pub invariant_of-result : goal.invariant_of-result
invariant_of-result c = in_order_empty year nat_cmp c.new.result _ (ap (λ i. i.slots) c.new-2.ensures)
