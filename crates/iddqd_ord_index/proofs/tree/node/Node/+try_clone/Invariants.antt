use Rattle.std.proofs.Common.{◌≡◌, ◌<◌, length, take}
use Rattle.iddqd_ord_index.specs.Nodes.{below, AreBranches, HasBlock}
use Rattle.iddqd_ord_index.proofs.tree.node.Node.+try_clone.Given as goal

abbrev pub decreases-try_clone : goal.decreases-try_clone
decreases-try_clone l = l.self.now.height

abbrev pub invariant-loop-i : goal.invariant-loop-i
invariant-loop-i l = record {
  branches : AreBranches l.branches;
  copied : below l.branches ≡ take l.i (below l.self-inside.branches);
  block : 0 < length (below l.self-inside.branches) → HasBlock l.branches;
}
