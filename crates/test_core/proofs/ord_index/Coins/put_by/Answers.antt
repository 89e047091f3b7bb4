use Rattle.std.proofs.lemmas.Cmp.{nat_cmp_total}
use Rattle.std.proofs.Common.{ℕ, sym, ap, subst, nat_cmp}
use Rattle.test_core.specs.declared.ord_index.Coin.{Coin}
use Rattle.test_core.specs.InOrder.{InOrder}
use Rattle.test_core.proofs.InOrderLemmas.{in_order_added, vacant_absent}
use Rattle.test_core.proofs.ord_index.Coins.put_by.Goals as goal

abbrev year : Coin → ℕ
year coin = coin.year

pub insert_by_key-requires-clause-absent : goal.insert_by_key-requires-clause-absent
insert_by_key-requires-clause-absent c = vacant_absent year nat_cmp c.self.inside.store c.self.inside.index.slots c.in-Some.slot c.self.invariant c.in-Some.ensures.slot.free

pub invariant_of-self-in-Inserted : goal.invariant_of-self-in-Inserted
invariant_of-self-in-Inserted c =
    let slots = c.self.inside.index.slots in
    let put = c.insert_into in
    let ins = c.in-Inserted.ensures.inserted in
    let coin : Coin = record { year = c.args.year } in
    subst (InOrder year nat_cmp put.new.self) (sym (ap (λ i. i.slots) ins.2)) (in_order_added year nat_cmp nat_cmp_total c.self.inside.store put.new.self slots c.in-Some.slot ins.0 coin c.self.invariant c.in-Some.ensures.slot.free put.ensures.updates ins.1)
