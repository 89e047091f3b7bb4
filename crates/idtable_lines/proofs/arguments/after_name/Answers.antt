-- For speed alone: the prover finds these proofs by itself, but later.
use Rattle.std.proofs.Common.{arith, rules}
use Rattle.std.proofs.lemmas.Grind.{common_steps}
use Rattle.idtable_lines.proofs.arguments.after_name.Goals as goal

pub returns-in-empty : goal.returns-in-empty
returns-in-empty c = search rules

pub returns-in-len1-up : goal.returns-in-len1-up
returns-in-len1-up c = grind (arith, common_steps)
