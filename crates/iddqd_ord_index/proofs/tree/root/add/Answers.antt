use Rattle.std.proofs.Common.{arith}
use Rattle.iddqd_ord_index.proofs.AddLemmas.{parted_length}
use Rattle.iddqd_ord_index.proofs.tree.root.add.Goals as goal

pub push_root_level-requires-clause-total : goal.push_root_level-requires-clause-total
push_root_level-requires-clause-total c =
    omega (arith, c.requires.len, parted_length c.args.root.now.slots c.args.at c.args.slot c.in-Some.middle c.add.new.self c.in-Some.upper (omega (arith, c.requires.place, c.requires.len)) c.in-Some.ensures.adds)
