use Rattle.std.proofs.Common.{refl, rules}
use Rattle.iddqd_run.proofs.AscendLemmas.{by_name_of}
use Rattle.iddqd_run.proofs.by_name.IdOrdMapEntryByName.take_least.Goals as goal

pub returns-clause-ordered : goal.returns-clause-ordered
returns-clause-ordered c = (refl, by_name_of c.args.self.now.items c.requires.keyed)

pub returns-clause-taken : goal.returns-clause-taken
returns-clause-taken c = search rules

pub returns-clause-left : goal.returns-clause-left
returns-clause-left c = search rules
