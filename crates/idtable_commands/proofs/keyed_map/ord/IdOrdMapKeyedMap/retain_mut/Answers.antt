-- For speed alone: the prover finds these proofs by itself, but later.
use Rattle.std.proofs.Common.{rules}
use Rattle.idtable_commands.proofs.keyed_map.ord.IdOrdMapKeyedMap.retain_mut.Goals as goal

pub returns-clause-retained : goal.returns-clause-retained
returns-clause-retained g c = search rules
