-- For speed alone: the prover finds these proofs by itself, but later.
use Rattle.std.proofs.Common.{rules}
use Rattle.idtable_commands.proofs.keyed_map.ord.IdOrdMapKeyedMap.remove.Goals as goal

pub returns-clause-value : goal.returns-clause-value
returns-clause-value g c = search rules

pub returns-clause-items : goal.returns-clause-items
returns-clause-items g c = search rules
