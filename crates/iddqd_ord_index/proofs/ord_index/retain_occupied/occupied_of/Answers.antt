use Rattle.std.proofs.Common.{length, take, is_some, ap, arith}
use Rattle.std.proofs.lemmas.List.{length-take-le}
use Rattle.iddqd_store.specs.Store.{item_at}
use Rattle.iddqd_ord_index.proofs.OccupiedLemmas.{few_filtered}
use Rattle.iddqd_ord_index.proofs.ord_index.retain_occupied.occupied_of.Goals as goal

pub push-requires : goal.push-requires
push-requires g c =
    let few = few_filtered (λ slot. is_some (item_at c.args.store.now slot)) (take c.loop-i.i c.args.run.now) in
    let many = length-take-le c.loop-i.i c.args.run.now (omega (arith, c.loop-i-test.true)) in
    (omega arith, omega (arith, few, many, ap length c.loop-i.invariant, c.loop-i-test.true, c.requires))
