use Rattle.std.proofs.Common.{take}
use Rattle.iddqd_ord_index.proofs.BackLemmas.{none_ends}
use Rattle.iddqd_ord_index.proofs.ord_index.walk.Walk.with_leaves.Goals as goal

pub invariant_of-result : goal.invariant_of-result
invariant_of-result c = (
  c.requires.forward,
  c.requires.in_list,
  c.requires.here,
  none_ends c.along.result (take c.args.to c.args.root.now.slots) c.along.ensures,
)
