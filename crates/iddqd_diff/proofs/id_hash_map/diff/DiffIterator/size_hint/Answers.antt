use Rattle.std.proofs.Common.{◌+◌, ◌≤◌, ℕ, None, Option, Some, ap, arith, length}
use Rattle.std.specs.Iterator.{UpTo, at_most}
use Rattle.std.specs.Option.{IfSome, SomeIff}
use Rattle.iddqd_diff.proofs.LookedUpLemmas.{length_most}
use Rattle.iddqd_diff.proofs.id_hash_map.diff.DiffIterator.size_hint.Goals as goal

within : (P : Type 0) (n v : ℕ) (r : Option ℕ) → SomeIff r P v → n ≤ v → IfSome r (UpTo (at_most n))
within P n v None e h = tt
within P n v (Some k) e h = (tt, omega (arith, e.1))

pub returns-clause-upper : goal.returns-clause-upper
returns-clause-upper g c =
    let s = c.self.inside in
    within _ (length c.args.self.now) (c.len-old.result + c.len.result) c.checked_add.result c.checked_add.ensures
    (omega (arith, length_most g.T.IdHashItem.key g.T.Key.PartialEq.eq s.before.now.items s.after.now.items s.old_rest s.new_rest, ap length c.self.view_is, c.len-old.ensures.value, c.len.ensures.value))
