-- What branches are after a `&mut` to their block ends.
use Rattle.std.specs.Borrow.{Fml, Lends, MutBor}
use Rattle.iddqd_ord_index.specs.Nodes.{with_block}
use Rattle.iddqd_ord_index.specs.contracts.tree.node.Block as block
use Rattle.iddqd_ord_index.specs.contracts.tree.node.Branches as branches
use Rattle.iddqd_ord_index.specs.declared.tree.node.Block.{Block}
use Rattle.iddqd_ord_index.specs.declared.tree.node.Branches.{Branches}

-- when the borrow r ends, the branches lie in the last block written through r
abbrev pub lends_block : MutBor Branches → MutBor Block → Fml
lends_block bs r = Lends branches.the_row block.the_row bs r (with_block bs.now)
