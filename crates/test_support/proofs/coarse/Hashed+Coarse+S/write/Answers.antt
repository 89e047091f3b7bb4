use Rattle.std.proofs.Common.{rules, refl}
use Rattle.test_support.proofs.coarse.Hashed+Coarse+S.write.Goals as goal

pub invariant_of-self-2 : goal.invariant_of-self-2
invariant_of-self-2 g c =
    let keyed = c.into_mut-lent.ensures.keyed c.deref_mut.result.now (record c.deref_mut.result.now { value = c.args.value }) c.deref_mut.ensures.value refl in
    search rules
