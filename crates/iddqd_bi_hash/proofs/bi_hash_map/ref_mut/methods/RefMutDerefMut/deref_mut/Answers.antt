use Rattle.std.proofs.Common.{refl, ap}
use Rattle.std.proofs.Math.Bool.{Bool-set}
use Rattle.iddqd_store.specs.SlotItems.{still_there}
use Rattle.iddqd_bi_hash.specs.Guard.{with_item}
use Rattle.iddqd_bi_hash.proofs.bi_hash_map.ref_mut.methods.RefMutDerefMut.deref_mut.Goals as goal

pub invariant_of-self-lent : goal.invariant_of-self-lent
invariant_of-self-lent g c w =
    let r = c.args.self.now in
    (still_there r.map.now.slots r.map.now.items r.slot w r.there, tt)

pub returns : goal.returns
returns g c = (
  (refl, λ w. ap (λ q. record (with_item c.args.self.now w) { there = q }) (Bool-set _ _ _ _)),
  record { writes_back = tt; value = c.item_in_slot_mut.ensures.value },
)
