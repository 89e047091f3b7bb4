use Rattle.std.proofs.Common.{ℕ, sym, ap, subst, slice_index_or, None, IsSome}
use Rattle.std.specs.List.{Contains}
use Rattle.test_core.specs.declared.ord_index.Coin.{Coin}
use Rattle.iddqd_store.specs.Store.{IsOccupied}
use Rattle.iddqd_hash_index.proofs.PairLemmas.{absent-vacant, contains-renamed, occupied-added}
use Rattle.test_core.proofs.hash_index.CoinMap.rename_year.Goals as goal

pub find_by_key-requires : goal.find_by_key-requires
find_by_key-requires g c = record { occupied = c.self.invariant c.args.hash }

pub rename-requires-clause-absent : goal.rename-requires-clause-absent
rename-requires-clause-absent g c =
    let kept = sym (ap (λ s. s.slots) c.try_reserve.ensures.rest) in
    let occupied : (h s : ℕ) → Contains c.self.inside.index.pairs (h, s) → IsOccupied c.try_reserve.new.self s =
    λ h s held. subst (λ slots. IsSome (slice_index_or slots s None)) kept (c.self.invariant h s held) in
    absent-vacant c.try_reserve.new.self c.self.inside.index.pairs _ occupied c.insert_reserved-new.ensures.was_vacant

pub invariant_of-self : goal.invariant_of-self
invariant_of-self g c =
    let pairs = c.self.inside.index.pairs in
    let named = c.rename.new.self.pairs in
    let slot = c.insert_reserved-new.result in
    let kept = sym (ap (λ s. s.slots) c.try_reserve.ensures.rest) in
    let occupied : (h s : ℕ) → Contains pairs (h, s) → IsOccupied c.try_reserve.new.self s =
    λ h s held. subst (λ slots. IsSome (slice_index_or slots s None)) kept (c.self.invariant h s held) in
    let coin : Coin = record { year = c.args.year } in
    occupied-added c.try_reserve.new.self c.insert_reserved-new.new.self pairs named c.args.hash slot coin occupied c.insert_reserved-new.ensures.updates
    (λ p. contains-renamed pairs named (c.args.hash, c.in_ok-old.old) (c.args.hash, slot) p c.rename.ensures.pairs)
