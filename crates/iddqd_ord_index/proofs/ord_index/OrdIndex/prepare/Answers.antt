use Rattle.std.proofs.Common.{arith, rules}
use Rattle.iddqd_ord_index.proofs.HeightLemmas.{height_most}
use Rattle.iddqd_ord_index.proofs.ord_index.OrdIndex.prepare.Goals as goal

pub prepare-requires : goal.prepare-requires
prepare-requires c = omega (arith, height_most c.self.inside.root c.self.invariant.dense c.self.invariant.top (omega (arith, c.self.invariant.numbered)), c.self.invariant.levels)

pub returns-in-Ok-clause-ok : goal.returns-in-Ok-clause-ok
returns-in-Ok-clause-ok c = search rules
