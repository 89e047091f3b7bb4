use Rattle.iddqd_ord_index.proofs.BackLemmas.{prev_ends, prev_is}
use Rattle.iddqd_ord_index.proofs.ord_index.walk.step_back.Goals as goal

pub returns-in-Some-clause-slot : goal.returns-in-Some-clause-slot
returns-in-Some-clause-slot c =
    prev_is c.args.root.now.slots c.args.leaves.now c.next.new.self c.args.at c.in-Some.slot c.requires.in_list c.requires.here c.in-Some.ensures.some

pub returns-in-Some-clause-there : goal.returns-in-Some-clause-there
returns-in-Some-clause-there c =
    prev_ends c.args.root.now.slots c.args.leaves.now c.next.new.self c.args.at c.in-Some.slot c.requires.in_list c.requires.here c.in-Some.ensures.some
