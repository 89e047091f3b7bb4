use Rattle.std.proofs.Common.{sym, subst}
use Rattle.std.specs.List.Sorted.{IsStrictlySortedBy}
use Rattle.iddqd_store.specs.Contents.{Ascends}
use Rattle.iddqd_ord_index.specs.Listed.{listed_items}
use Rattle.iddqd_ord.proofs.id_ord_map.IdOrdMap.over.Goals as goal

pub returns-clause-keyed : goal.returns-clause-keyed
unfolding IsStrictlySortedBy
returns-clause-keyed g c =
    subst (λ i. Ascends g.T.IdOrdItem.key g.T.Key.Ord.cmp (listed_items c.args.store i.slots)) (sym c.new.ensures) tt
