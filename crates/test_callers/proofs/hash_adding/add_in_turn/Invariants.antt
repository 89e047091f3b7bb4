use Rattle.iddqd.specs.IdHashMap.{IsKeyedByText}
use Rattle.test_callers.proofs.hash_adding.add_in_turn.Given as goal

abbrev pub invariant-loop-item : goal.invariant-loop-item
invariant-loop-item l =
    goal.iterator-loop-item.can_next l.item-iterator ×
    goal.iterator-loop-item.is_finite l.item-iterator ×
    (IsKeyedByText (λ x. x.name) l.all)
