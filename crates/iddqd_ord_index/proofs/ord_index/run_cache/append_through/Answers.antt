use Rattle.std.proofs.Common.{◌++◌, drop, sym, ap, rules}
use Rattle.iddqd_ord_index.proofs.ord_index.run_cache.append_through.Goals as goal

pub read-init : goal.read-init
read-init c =
    let all = drop c.args.start c.args.root.now.slots in
    (all, sym (ap (λ l. l ++ all) c.requires.none))

pub returns-clause-there : goal.returns-clause-there
returns-clause-there c = search rules
