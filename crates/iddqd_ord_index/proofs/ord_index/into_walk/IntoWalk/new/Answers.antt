use Rattle.std.proofs.Common.{take_all, arith}
use Rattle.iddqd_ord_index.proofs.IndexLemmas.{empty_run}
use Rattle.iddqd_ord_index.proofs.ord_index.into_walk.IntoWalk.new.Goals as goal

pub invariant_of-result : goal.invariant_of-result
invariant_of-result c =
    let slots = c.args.root.slots in (
      omega arith,
      omega (arith, c.requires),
      empty_run c.new.result slots c.new.ensures,
      empty_run c.new-2.result slots c.new-2.ensures,
    )

pub returns : goal.returns
returns c = take_all c.args.len c.args.root.slots (omega (arith, c.requires))
