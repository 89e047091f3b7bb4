use Rattle.std.proofs.Common.{◌++◌, drop, sym, ap, subst, arith}
use Rattle.std.specs.List.{remove}
use Rattle.iddqd_ord_index.specs.Runs.{BeginsWith, IsRunOf}
use Rattle.iddqd_ord_index.proofs.RunLemmas.{run_removed}
use Rattle.iddqd_ord_index.proofs.ord_index.run_cache.RunCache.remove.Goals as goal

pub returns-then-at-self-2 : goal.returns-then-at-self-2
returns-then-at-self-2 c all lt here =
    let old = c.self.inside in
    let run = subst (λ r. IsRunOf r all) (sym c.self.view_is) here in
    let left = run_removed old.slots.items all old.start c.args.at (omega (arith, c.if-at-self.true)) (omega (arith, c.if-at-self-2.true, c.len.ensures.value)) run in
    subst (λ l. BeginsWith l (drop old.start (remove all c.args.at))) (sym c.remove.ensures.items) left

pub returns-else-at-self : goal.returns-else-at-self
returns-else-at-self c all lt here =
    let rest = drop c.self.inside.start (remove all c.args.at) in
    (rest, sym (ap (λ l. l ++ rest) c.clear.ensures))
