use Rattle.std.proofs.Common.{◌∙◌, sym, ap, subst}
use Rattle.iddqd_ord_index.specs.Listed.{listed_items}
use Rattle.iddqd_ord_index.proofs.ListedLemmas.{listed-added}
use Rattle.iddqd_ord.specs.StoreAndIndex.{ListsOccupied}
use Rattle.iddqd_ord.proofs.StoreAndIndexLemmas.{paired_added}
use Rattle.iddqd_ord.proofs.id_ord_map.store_and_index.insert_in_both.Goals as goal

pub returns-clause-paired : goal.returns-clause-paired
returns-clause-paired g c =
    let put = c.insert_reserved-slot in
    let slots = ap (λ i. i.slots) c.add_prepared.ensures in
    subst (ListsOccupied put.new.self) (sym slots) (paired_added c.args.store.now put.new.self c.args.index.now.slots c.requires.paired put.result c.args.place c.args.item c.requires.in_list put.ensures.was_vacant put.ensures.updates put.ensures.len)

pub returns-clause-put : goal.returns-clause-put
returns-clause-put g c =
    let put = c.insert_reserved-slot in
    let slots = ap (λ i. i.slots) c.add_prepared.ensures in
    ap (listed_items put.new.self) slots ∙ listed-added c.args.store.now put.new.self c.args.index.now.slots c.args.place put.result c.args.item c.requires.paired.occupied put.ensures.was_vacant put.ensures.updates.changed put.ensures.updates.others
