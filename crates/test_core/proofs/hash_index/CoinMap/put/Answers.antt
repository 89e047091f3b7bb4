use Rattle.std.proofs.Common.{ℕ, sym, ap, subst, slice_index_or, None, IsSome}
use Rattle.std.specs.List.{Contains}
use Rattle.test_core.specs.declared.ord_index.Coin.{Coin}
use Rattle.iddqd_store.specs.Store.{IsOccupied}
use Rattle.iddqd_hash_index.proofs.PairLemmas.{absent-vacant, contains-added, contains-same, occupied-added}
use Rattle.test_core.proofs.hash_index.CoinMap.put.Goals as goal

pub add_reserved-requires-clause-absent : goal.add_reserved-requires-clause-absent
add_reserved-requires-clause-absent g c =
    let pairs = c.try_reserve.new.self.pairs in
    let kept = sym (ap (λ s. s.slots) c.try_reserve-2.ensures.rest) in
    let occupied : (h s : ℕ) → Contains pairs (h, s) → IsOccupied c.try_reserve-2.new.self s =
    λ h s held. subst (λ slots. IsSome (slice_index_or slots s None)) kept (c.self.invariant h s (contains-same c.self.inside.index.pairs pairs (h, s) c.try_reserve.ensures.pairs held)) in
    absent-vacant c.try_reserve-2.new.self pairs _ occupied c.insert_reserved-slot.ensures.was_vacant

pub invariant_of-self : goal.invariant_of-self
invariant_of-self g c =
    let pairs = c.try_reserve.new.self.pairs in
    let more = c.add_reserved.new.self.pairs in
    let slot = c.insert_reserved-slot.result in
    let kept = sym (ap (λ s. s.slots) c.try_reserve-2.ensures.rest) in
    let occupied : (h s : ℕ) → Contains pairs (h, s) → IsOccupied c.try_reserve-2.new.self s =
    λ h s held. subst (λ slots. IsSome (slice_index_or slots s None)) kept (c.self.invariant h s (contains-same c.self.inside.index.pairs pairs (h, s) c.try_reserve.ensures.pairs held)) in
    let coin : Coin = record { year = c.args.year } in
    occupied-added c.try_reserve-2.new.self c.insert_reserved-slot.new.self pairs more c.args.hash slot coin occupied c.insert_reserved-slot.ensures.updates
    (λ p. contains-added pairs more (c.args.hash, slot) p c.add_reserved.ensures.pairs)
