use Rattle.std.proofs.Common.{ℕ, nat_cmp}
use Rattle.test_core.specs.declared.ord_index.Coin.{Coin}
use Rattle.test_core.proofs.InOrderLemmas.{in_order_removed_by}
use Rattle.test_core.proofs.ord_index.Coins.take_by.Goals as goal

abbrev year : Coin → ℕ
year coin = coin.year

pub invariant_of-self : goal.invariant_of-self
invariant_of-self c =
    in_order_removed_by year nat_cmp (nat_cmp c.args.year) c.self.inside.store c.self.inside.index c.remove_by_key-slot.result c.remove_by_key-slot.new.self c.self.invariant c.remove_by_key-slot.ensures.after
