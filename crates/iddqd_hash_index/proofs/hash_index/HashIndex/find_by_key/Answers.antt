use Rattle.std.proofs.Common.{subst, rules}
use Rattle.std.specs.List.{Contains}
use Rattle.iddqd_hash_index.proofs.TakeLemmas.{HoldsPair-listed}
use Rattle.iddqd_hash_index.proofs.hash_index.HashIndex.find_by_key.Goals as goal

pub returns-clause-found : goal.returns-clause-found
returns-clause-found g c =
    let there = HoldsPair-listed _ _ _ _ _ _ (rw (c.as_slice-groups.ensures.value, c.as_slice-cells.ensures.value) at c.in_ok-found.ensures.lane) in
    (subst (λ v. Contains v.pairs (c.args.hash, c.in_ok-found.found)) c.self.view_is there, c.in_ok-found.ensures.found)

pub returns-in_err-found-clause-absent : goal.returns-in_err-found-clause-absent
returns-in_err-found-clause-absent g c = search rules

pub returns-clause-absent : goal.returns-clause-absent
returns-clause-absent g c = search rules
