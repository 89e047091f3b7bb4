-- For speed alone: the prover finds these proofs by itself, but later.
use Rattle.std.proofs.Common.{rules}
use Rattle.idtable_commands.proofs.running.answer.Goals as goal

pub returns-in-Some-clause-does : goal.returns-in-Some-clause-does
returns-in-Some-clause-does g c = search rules

pub returns-in-Remove-clause-does : goal.returns-in-Remove-clause-does
returns-in-Remove-clause-does g c = search rules
