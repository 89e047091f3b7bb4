-- The same commands, as clones are, have the same replies.
--     run_of_same      a run of commands is one of the same commands
--     clones_are_same      clones of commands are the same commands
use Rattle.std.proofs.Common.{◌≡◌, ℕ, Bool, List, [], ◌∷◌, length, Some, None, subst}
use Rattle.std.specs.Global.{Vec}
use Rattle.std.specs.List.{AllZip}
use Rattle.std.specs.Prelude.{IfSome}
use Rattle.iddqd.specs.Collecting.{room_to_reserve}
use Rattle.idtable_commands.specs.SameReplies.{SameCommand}
use Rattle.idtable_commands.specs.Step.{Answers, FindsFull, FitsLikely, MapRule, MapState, MeetsAkin, RefusesRoom, Run, Step, InsertsAll}
use Rattle.idtable_commands.specs.declared.commands.Command.{Command}
use Rattle.idtable_commands.specs.declared.commands.Command.TheVariants.{InsertUnique, InsertOverwrite, Get, Remove, Visit, RetainMut, Clear, Reserve, Shrink, Len, ExtendUnique}
use Rattle.idtable_commands.specs.declared.commands.Reply.{Reply}
use Rattle.idtable_commands.specs.declared.commands.Reply.TheVariants.{Extended, Conflict, Stopped}

module _ {T K V : Type 0} (key : T → K) (eq : K → K → Bool) (visits : V → T → V × T × Bool) (limit : ℕ) (rule : MapRule K) where
  extended : (xs ys : Vec T) → ys.items ≡ xs.items → (old : MapState T) (reply : Reply T) (new : List T) → Answers key eq visits limit rule (ExtendUnique ys) old reply new → Answers key eq visits limit rule (ExtendUnique xs) old reply new
  extended xs ys e old (Extended n) new a = subst (λ zs. (n ≡ length zs) × FitsLikely key eq limit zs old.items × InsertsAll key eq limit zs old.items new) e a
  extended xs ys e old (Conflict x existing after) new a = subst (λ zs. (y : T) × FitsLikely key eq limit zs old.items × MeetsAkin key eq limit zs x y after old.items new × IfSome existing (λ c. c ≡ y)) e a
  extended xs ys e old (Stopped (Some x) kind after) new a = subst (λ zs. FitsLikely key eq limit zs old.items × FindsFull key eq limit zs x kind after old new) e a
  extended xs ys e old (Stopped None kind after) new a = subst (λ zs. RefusesRoom limit (room_to_reserve (length old.items) (length zs)) old kind × (after ≡ 0) × (new ≡ old.items)) e a
  extended xs ys e old reply new a = absurd a

  module _ (old : MapState T) (reply : Reply T) (new : MapState T) where
    step_of_same : (one other : Command T K V) → SameCommand one other → Step key eq visits limit rule old other reply new → Step key eq visits limit rule old one reply new
    step_of_same (ExtendUnique xs) other (ys, is, e) step =
        let step_of_items = subst (λ c. Step key eq visits limit rule old c reply new) is step in
        record { does = record { answers = extended xs ys e old reply new.items step_of_items.does.answers; room = step_of_items.does.room }; lie = step.lie }
    step_of_same (InsertUnique x) other is step = subst (λ c. Step key eq visits limit rule old c reply new) is step
    step_of_same (InsertOverwrite x) other is step = subst (λ c. Step key eq visits limit rule old c reply new) is step
    step_of_same (Get k) other is step = subst (λ c. Step key eq visits limit rule old c reply new) is step
    step_of_same (Remove k) other is step = subst (λ c. Step key eq visits limit rule old c reply new) is step
    step_of_same (Visit k v) other is step = subst (λ c. Step key eq visits limit rule old c reply new) is step
    step_of_same (RetainMut v) other is step = subst (λ c. Step key eq visits limit rule old c reply new) is step
    step_of_same Clear other is step = subst (λ c. Step key eq visits limit rule old c reply new) is step
    step_of_same (Reserve n) other is step = subst (λ c. Step key eq visits limit rule old c reply new) is step
    step_of_same Shrink other is step = subst (λ c. Step key eq visits limit rule old c reply new) is step
    step_of_same Len other is step = subst (λ c. Step key eq visits limit rule old c reply new) is step

  pub run_of_same : (ones others : List (Command T K V)) → AllZip SameCommand ones others → (old : MapState T) (replies : List (Reply T)) (new : MapState T) → Run key eq visits limit rule old others replies new → Run key eq visits limit rule old ones replies new
  run_of_same [] [] same old replies new ran = ran
  run_of_same [] (d ∷ ds) same old replies new ran = absurd same
  run_of_same (c ∷ cs) [] same old replies new ran = absurd same
  run_of_same (c ∷ cs) (d ∷ ds) same old [] new ran = absurd ran
  run_of_same (c ∷ cs) (d ∷ ds) same old (r ∷ rs) new (middle, step, ran) = (middle, step_of_same old r middle c d same.0 step, run_of_same cs ds same.1 middle rs new ran)
