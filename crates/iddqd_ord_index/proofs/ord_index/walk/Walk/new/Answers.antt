use Rattle.std.proofs.Common.{◌++◌, drop, ap, sym}
use Rattle.iddqd_ord_index.proofs.ord_index.walk.Walk.new.Goals as goal

pub with_leaves-requires-clause-here : goal.with_leaves-requires-clause-here
with_leaves-requires-clause-here c =
    let rest = drop c.args.from c.args.root.now.slots in
    (rest, sym (ap (λ l. l ++ rest) c.along.ensures))
