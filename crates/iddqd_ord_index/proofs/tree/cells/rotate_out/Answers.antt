-- For speed alone: the prover finds these proofs by itself, but later.
use Rattle.std.proofs.Common.{rules}
use Rattle.iddqd_ord_index.proofs.tree.cells.rotate_out.Goals as goal

pub rotate_left-requires : goal.rotate_left-requires
rotate_left-requires g c = search rules
