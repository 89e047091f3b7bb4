use Rattle.std.proofs.lemmas.List.Sorted.{IsPermutation-refl}
use Rattle.iddqd_run.proofs.AscendLemmas.{by_name_of}
use Rattle.iddqd_run.proofs.EndLemmas.{lists_items}
use Rattle.iddqd_run.proofs.by_name.IdOrdMapEntryByName.write_list.Goals as goal

pub returns-in-Ok-clause-listed : goal.returns-in-Ok-clause-listed
returns-in-Ok-clause-listed c =
    let items = c.args.self.now.items in
    lists_items items items c.args.text.now c.write_ascending.new.text (IsPermutation-refl items) (by_name_of items c.requires.keyed) c.in-Ok.ensures
