use Rattle.std.proofs.Common.{length, take, ap, arith, rules, length-drop, length-take}
use Rattle.iddqd_ord_index.proofs.ord_index.OrdIndex.walk_between.Goals as goal

pub returns-clause-fits : goal.returns-clause-fits
returns-clause-fits c =
    let i = c.self.inside in
    omega (arith, c.self.invariant.numbered, ap length c.new.ensures, length-drop c.from.inside.position (take c.to.inside.position i.root.slots), length-take c.to.inside.position i.root.slots)

pub returns-clause-slots : goal.returns-clause-slots
returns-clause-slots c = search rules
