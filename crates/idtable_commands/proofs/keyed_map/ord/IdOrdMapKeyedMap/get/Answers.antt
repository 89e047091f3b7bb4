-- For speed alone: the prover finds these proofs by itself, but later.
use Rattle.std.proofs.Common.{rules}
use Rattle.idtable_commands.proofs.keyed_map.ord.IdOrdMapKeyedMap.get.Goals as goal

pub returns-clause-found : goal.returns-clause-found
returns-clause-found g c = search rules
