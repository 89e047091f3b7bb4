use Rattle.std.proofs.Common.{rules, refl, subst, ◌≡◌, Some}
use Rattle.iddqd.specs.IdHashMap.{lent_item}
use Rattle.test_support.proofs.coarse.Hashed+Coarse+S.write_by_reborrow.Goals as goal

pub invariant_of-self-2 : goal.invariant_of-self-2
invariant_of-self-2 g c =
    let x = c.deref_mut.result.now in
    let there = subst (λ r. lent_item r ≡ Some x) c.reborrow-inner.ensures.guard c.deref_mut.ensures.value in
    let keyed = c.in_ok-outer.ensures.keyed x (record x { value = c.args.value }) there refl in
    search rules
