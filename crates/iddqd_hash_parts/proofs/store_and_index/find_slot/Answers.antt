use Rattle.iddqd_hash_parts.proofs.MapLemmas.{search_item}
use Rattle.iddqd_hash_parts.proofs.SlotFoundLemmas.{search_slot}
use Rattle.iddqd_hash_parts.proofs.store_and_index.find_slot.Goals as goal

pub returns-clause-item : goal.returns-clause-item
returns-clause-item g c =
    search_item g.K.KeyOf.key g.met.K.Key.Eq.laws (g.Q.Equivalent.equivalent c.args.query.now) (g.met.Q.Equivalent.one_key c.args.query.now) c.args.store.now c.args.index.now.pairs c.args.hash c.requires.paired c.requires.differ c.requires.stored c.find_by_key.result c.find_by_key.ensures.found c.find_by_key.ensures.absent

pub returns-clause-only : goal.returns-clause-only
returns-clause-only g c =
    search_slot g.K.KeyOf.key (g.Q.Equivalent.equivalent c.args.query.now) (g.met.Q.Equivalent.one_key c.args.query.now) c.args.store.now c.args.index.now.pairs c.args.hash c.requires.paired c.requires.differ c.requires.stored c.find_by_key.result c.find_by_key.ensures.found c.find_by_key.ensures.absent
