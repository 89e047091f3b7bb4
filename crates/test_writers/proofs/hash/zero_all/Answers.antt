use Rattle.std.proofs.Common.{ap, rules, ◌≡◌, Some, slice_get}
use Rattle.iddqd.specs.IdHashMap.{walk_done, walk_map}
use Rattle.test_writers.proofs.ZeroedLemmas.{changed_step}
use Rattle.test_writers.specs.Zeroed.{zeroed, changed_to}
use Rattle.test_writers.proofs.hash.zero_all.Goals as goal

pub loop-pair-preserved : goal.loop-pair-preserved
loop-pair-preserved g c =
    let is : slice_get (walk_map c.loop-pair.walk).items (walk_done c.loop-pair.walk) ≡ Some c.in-Some.pair.now = search rules in
    let at : slice_get (changed_to zeroed c.args.all.now.items (walk_done c.loop-pair.walk)) (walk_done c.loop-pair.walk) ≡ Some c.in-Some.pair.now = rw (← ap (λ m. m.items) c.loop-pair.invariant.1) is in
    let step = changed_step zeroed c.args.all.now.items (walk_done c.loop-pair.walk) c.in-Some.pair.now at in
    (search rules, search rules, search rules)
