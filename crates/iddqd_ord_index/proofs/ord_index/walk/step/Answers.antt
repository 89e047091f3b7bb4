use Rattle.iddqd_ord_index.proofs.RunLemmas.{next_begins}
use Rattle.iddqd_ord_index.proofs.ord_index.walk.step.Goals as goal

pub returns-in-Some-clause-there : goal.returns-in-Some-clause-there
returns-in-Some-clause-there c =
    next_begins c.args.root.now.slots c.args.leaves.now c.next.new.self c.args.at c.in-Some.slot c.requires.in_list c.requires.here c.in-Some.ensures.some
