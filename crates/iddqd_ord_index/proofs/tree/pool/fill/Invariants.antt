use Rattle.std.proofs.Common.{◌≡◌, ◌-◌, ◌≤◌, vec_len}
use Rattle.std.specs.Vec.{vec_capacity}
use Rattle.iddqd_ord_index.specs.Changes.{AreBare}
use Rattle.iddqd_ord_index.proofs.tree.pool.fill.Given as goal

abbrev pub invariant-fill : goal.invariant-fill
invariant-fill l = record {
  bare : AreBare l.blocks.items;
  room : vec_capacity l.blocks ≡ vec_capacity l.initial.blocks;
  more : vec_len l.initial.blocks ≤ vec_len l.blocks;
}

abbrev pub decreases-fill : goal.decreases-fill
decreases-fill l = l.wanted - vec_len l.blocks
