use Rattle.std.proofs.Common.{rules, subst}
use Rattle.iddqd.specs.IdHashMap.{differ_from_keyed}
use Rattle.iddqd_run.specs.Shown.{AppendsList, all_lent}
use Rattle.iddqd_run.proofs.EndLemmas.{lists_items}
use Rattle.iddqd_run.proofs.by_name.IdHashMapEntryByName.write_list.Goals as goal

pub by_name-requires : goal.by_name-requires
by_name-requires c = record { differ = differ_from_keyed _ _ _ _ _ c.requires.keyed }

pub returns-in-Ok-write_sorted-clause-listed : goal.returns-in-Ok-write_sorted-clause-listed
returns-in-Ok-write_sorted-clause-listed c =
    let sorted = all_lent c.in-Ok.sorted.items in
    let after = c.write_sorted.new.text in
    lists_items c.args.self.now.items sorted c.args.text.now after c.in-Ok.ensures.same c.in-Ok.ensures.ascending
    (subst (λ lent. AppendsList (all_lent lent) c.args.text.now after) c.as_slice.ensures.value c.in-Ok-write_sorted.ensures)

pub returns-in_default-clause-listed : goal.returns-in_default-clause-listed
returns-in_default-clause-listed c = search rules

pub returns-in_default-clause-refused : goal.returns-in_default-clause-refused
returns-in_default-clause-refused c = search rules
