use Rattle.std.proofs.Common.{◌∙◌, None, Some, sym, ap}
use Rattle.iddqd_hash_parts.proofs.MapLemmas.{search_item}
use Rattle.iddqd_hash_parts.proofs.StoreAndIndexLemmas.{listed_occupied, paired_removed}
use Rattle.iddqd_hash_parts.proofs.store_and_index.remove_found.Goals as goal

pub remove-requires : goal.remove-requires
remove-requires g c = listed_occupied c.args.store.now c.args.index.now.pairs c.requires.paired c.args.hash c.in_ok-slot.slot c.in_ok-slot.ensures.found.0

pub returns-clause-found : goal.returns-clause-found
returns-clause-found g c =
    sym c.remove.ensures.item
    ∙ search_item g.K.KeyOf.key g.met.K.Key.Eq.laws (g.Q.Equivalent.equivalent c.args.query.now) (g.met.Q.Equivalent.one_key c.args.query.now) c.args.store.now c.args.index.now.pairs c.args.hash c.requires.paired c.requires.differ c.requires.stored (Some c.in_ok-slot.slot) c.in_ok-slot.ensures.found c.in_ok-slot.ensures.absent

pub returns-clause-removed : goal.returns-clause-removed
returns-clause-removed g c =
    let store = c.args.store.now in
    let took = c.remove.ensures in
    let capacity = ap (λ s. s.capacity) took.store in
    let limit = ap (λ s. s.limit) took.store in
    record {
      item = took.item;
      updates = took.updates;
      pairs = c.in_ok-slot.ensures.pairs;
      len = took.len;
      vacant = took.vacant;
      paired = paired_removed store c.remove.new.self c.args.index.now.pairs c.remove_by_key.new.self.pairs c.requires.paired c.args.hash c.in_ok-slot.slot c.in_ok-slot.ensures.pairs c.in_ok-slot.ensures.found.0 took.updates took.len capacity limit;
      spare = c.in_ok-slot.ensures.spare;
      bounds = record { capacity = capacity; limit = limit };
    }

pub returns-in_err-slot-clause-found : goal.returns-in_err-slot-clause-found
returns-in_err-slot-clause-found g c =
    rw c.from_residual.ensures (search_item g.K.KeyOf.key g.met.K.Key.Eq.laws (g.Q.Equivalent.equivalent c.args.query.now) (g.met.Q.Equivalent.one_key c.args.query.now) c.args.store.now c.args.index.now.pairs c.args.hash c.requires.paired c.requires.differ c.requires.stored None c.in_err-slot.ensures.found c.in_err-slot.ensures.absent)
