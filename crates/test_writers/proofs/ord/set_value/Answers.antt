use Rattle.std.proofs.Common.{rules, refl}
use Rattle.test_writers.proofs.ord.set_value.Goals as goal

pub returns-in-Some-clause-keyed : goal.returns-in-Some-clause-keyed
returns-in-Some-clause-keyed c =
    let keyed = c.in-Some.ensures.keyed c.deref_mut.result.now (record c.deref_mut.result.now { value = c.args.value }) c.deref_mut.ensures.value refl in
    search rules
