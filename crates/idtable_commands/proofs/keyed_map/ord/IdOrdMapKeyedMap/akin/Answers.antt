-- For speed alone: the prover finds these proofs by itself, but later.
use Rattle.std.proofs.Common.{rules}
use Rattle.idtable_commands.proofs.keyed_map.ord.IdOrdMapKeyedMap.akin.Goals as goal

pub returns : goal.returns
returns g c = search rules
