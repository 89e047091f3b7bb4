use Rattle.std.proofs.Common.{refl}
use Rattle.iddqd_run.proofs.AscendLemmas.{by_name_of}
use Rattle.iddqd_run.proofs.by_name.IdOrdMapEntryByName.take_greatest.Goals as goal

pub returns-clause-ordered : goal.returns-clause-ordered
returns-clause-ordered c = (refl, by_name_of c.args.self.now.items c.requires.keyed)
