use Rattle.std.proofs.Common.{◌≡◌, ℕ, nat_eq, rules}
use Rattle.std.specs.Cmp.{nat_eq_equiv}
use Rattle.std.specs.List.{AllZip}
use Rattle.idtable_commands.specs.SameReplies.{HoldSameItems, SameCommand, SameReplies}
use Rattle.test_callers.specs.Runs.{AreUnrefused}
use Rattle.test_callers.specs.declared.runs.Sets.{Sets}
use Rattle.test_writers.specs.declared.items.Pair.{Pair}
use Rattle.test_callers.proofs.runs.run_both.Goals as goal

-- the law of same replies, of both runs
alike : (c : goal.In-Ok-run-2) → AreUnrefused record { hashed = c.in-Ok-run.of_hashed; ordered = c.in-Ok-run-2.of_ordered }
    → (c.in-Ok-run.of_hashed.items ≡ c.in-Ok-run-2.of_ordered.items) × HoldSameItems (λ (p : Pair). p.key) nat_eq c.run.new.map.items c.run-2.new.map.items
alike c unrefused =
    let law : SameReplies Pair ℕ Sets = c.same_replies.ensures in
    let clones : AllZip SameCommand c.args.commands.items c.in-Ok.clones.items = c.clones_are_same.ensures (search rules) (search rules) (search rules) _ _ c.in-Ok.ensures.cases.0 in
    law (λ p. p.key) nat_eq nat_eq_equiv _ (search rules) _ _ _ _ _ _ _ _ _ _ _ _ clones c.requires.orderless c.requires.same (c.in-Ok-run.ensures.run, unrefused.0) (c.in-Ok-run-2.ensures.run, unrefused.1)

pub returns-clause-replies : goal.returns-clause-replies
returns-clause-replies c unrefused = (alike c unrefused).0

pub returns-clause-same : goal.returns-clause-same
returns-clause-same c unrefused = (alike c unrefused).1
