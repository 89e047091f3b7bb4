use Rattle.std.proofs.Common.{rules, refl}
use Rattle.example_inventory.proofs.Inventory.take.Goals as goal

pub invariant_of-self-2 : goal.invariant_of-self-2
invariant_of-self-2 c =
    let keyed = c.in_ok-part.ensures.keyed c.deref_mut.result.now (record c.deref_mut.result.now { count = c.in-Some.left }) c.deref_mut.ensures.value refl in
    search rules
