use Rattle.std.proofs.Common.{arith}
use Rattle.iddqd_hash_index.specs.Groups.{spread}
use Rattle.iddqd_hash_index.proofs.hash_index.probe_sequence.spread_out.Goals as goal

pub returns : goal.returns
unfolding spread
returns c = omega (arith, c.carrying_mul.ensures)
