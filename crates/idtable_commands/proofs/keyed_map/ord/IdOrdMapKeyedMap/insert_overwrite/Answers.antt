-- For speed alone: the prover finds these proofs by itself, but later.
use Rattle.std.proofs.Common.{rules}
use Rattle.idtable_commands.proofs.keyed_map.ord.IdOrdMapKeyedMap.insert_overwrite.Goals as goal

pub returns-clause-overwritten : goal.returns-clause-overwritten
returns-clause-overwritten g c = search rules

pub returns-clause-refused : goal.returns-clause-refused
returns-clause-refused g c = search rules

pub returns-clause-unchanged : goal.returns-clause-unchanged
returns-clause-unchanged g c = search rules

pub returns-clause-stays : goal.returns-clause-stays
returns-clause-stays g c = search rules
