use Rattle.std.proofs.Common.{arith, rules}
use Rattle.std.proofs.lemmas.Grind.{common_steps}
use Rattle.std.proofs.KnownBytes.{Consumes-trans}
use Rattle.iddqd_run.proofs.serving.read_whole.Goals as goal

-- the chunk that found no room was read too
pub returns-then-is_err-clause-read : goal.returns-then-is_err-clause-read
returns-then-is_err-clause-read g c = (_, Consumes-trans _ _ _ _ _ c.loop.invariant c.in-Ok.ensures.bytes.0)

pub returns-then-ne-clause-at_end : goal.returns-then-ne-clause-at_end
returns-then-ne-clause-at_end g c = search rules

pub loop-preserved : goal.loop-preserved
loop-preserved g c = grind (arith, common_steps)
