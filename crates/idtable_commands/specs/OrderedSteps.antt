-- The law of an ordered map's steps: its items ascend, so their places follow, and no case of *Answers* has to state them.
use Rattle.std.specs.declared.cmp.Ordering.{Ordering}
use Rattle.std.specs.Cmp.{IsTotalOrder}
use Rattle.std.specs.Prelude.{◌≡◌, ℕ, Bool}
use Rattle.iddqd.specs.Contents.{Ascends, items_with}
use Rattle.idtable_commands.specs.Step.{MapState, Ordered, Step}
use Rattle.idtable_commands.specs.declared.commands.Command.{Command}
use Rattle.idtable_commands.specs.declared.commands.Command.TheVariants.{InsertUnique, Shrink}
use Rattle.idtable_commands.specs.declared.commands.Reply.{Reply}
use Rattle.idtable_commands.specs.declared.commands.Reply.TheVariants.{Inserted}

module _ {T K V : Type 0} (key : T → K) (eq : K → K → Bool) (visits : V → T → V × T × Bool) (limit : ℕ) (compare : K → K → Ordering) where
  abbrev pub OrderedStep : MapState T → Command T K V → Reply T → MapState T → Type 0
  OrderedStep = Step key eq visits limit (Ordered compare)

  -- a step inserts x
  abbrev pub StepInserts : T → (old new : MapState T) → Type 0
  StepInserts x old new = OrderedStep old (InsertUnique x) Inserted new

  -- a shrink leaves the same list, refused or not; an inserted item stands at its place among the others
  pub record TellsOrder (old new : MapState T) : Type 0 where
    pub shrunk : (reply : Reply T) → OrderedStep old Shrink reply new → new.items ≡ old.items
    pub inserted : (x : T) → StepInserts x old new → new.items ≡ items_with key compare x old.items

-- of items that ascend by a total order
abbrev pub OrderedSteps : Type 0 → Type 0 → Type 0 → Type 0
OrderedSteps T K V =
    (key : T → K) (eq : K → K → Bool) (visits : V → T → V × T × Bool) (limit : ℕ) (compare : K → K → Ordering) → IsTotalOrder compare
    → (old new : MapState T) → Ascends key compare old.items → TellsOrder key eq visits limit compare old new
