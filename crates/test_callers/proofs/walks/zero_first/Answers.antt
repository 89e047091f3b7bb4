use Rattle.std.proofs.Common.{rules, ◌≡◌, Some, slice_get}
use Rattle.test_writers.proofs.ZeroedLemmas.{changed_first}
use Rattle.test_writers.specs.Zeroed.{zeroed}
use Rattle.test_callers.proofs.walks.zero_first.Goals as goal

pub returns-in-Some : goal.returns-in-Some
returns-in-Some c =
    let is : slice_get c.args.all.now.items 0 ≡ Some c.in-Some.pair.now = search rules in
    let first = changed_first zeroed c.args.all.now.items c.in-Some.pair.now is in
    search rules
