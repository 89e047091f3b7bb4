use Rattle.std.proofs.Common.{◌∙◌, sym, subst}
use Rattle.iddqd_store.specs.Collecting.{Meets}
use Rattle.iddqd_hash.proofs.id_hash_map.IdHashMap.insert_or_remove.Goals as goal

pub returns-in-Some-clause-akin : goal.returns-in-Some-clause-akin
returns-in-Some-clause-akin g c =
    let found = sym c.in-Some.ensures.slot.item ∙ c.take_hashed.ensures.value in
    (c.internal_new.ensures.new, subst (Meets g.T.IdHashItem.key g.T.Key.PartialEq.eq c.args.item c.args.self.now.items) (sym c.internal_new.ensures.duplicates) found)
