-- For speed alone: the prover finds these proofs by itself, but later.
use Rattle.std.proofs.Common.{rules}
use Rattle.idtable_commands.proofs.keyed_map.hash.IdHashMapKeyedMap.remove.Goals as goal

pub returns-clause-value : goal.returns-clause-value
returns-clause-value g c = search rules

pub returns-clause-items : goal.returns-clause-items
returns-clause-items g c = search rules

pub returns-clause-stays : goal.returns-clause-stays
returns-clause-stays g c = search rules
