-- Steps put together.
use Rattle.std.proofs.Common.{arith, max, ℕ, Bool, List, [], ◌∷◌, ◌++◌, refl, subst}
use Rattle.idtable_commands.specs.Step.{FitsRoom, Hashed, KeepsRoom, LeavesRoom, MapRule, MapState, Ordered, Step, Run}
use Rattle.idtable_commands.specs.declared.commands.Command.{Command}
use Rattle.idtable_commands.specs.declared.commands.Reply.{Reply}

-- a call that only reads keeps the room
pub room_kept : {T K : Type 0} (rule : MapRule K) (limit : ℕ) (m : MapState T) → FitsRoom rule limit m → KeepsRoom rule limit m m
room_kept (Ordered compare) limit m fits = (fits, fits)
room_kept Hashed limit m fits = record { at_least = omega arith; in_limit = fits }

-- the greater of the rooms that two facts tell
pub room_both : {T K : Type 0} (rule : MapRule K) (limit one other : ℕ) (old new : MapState T) → LeavesRoom rule limit one old new → LeavesRoom rule limit other old new → LeavesRoom rule limit (max one other) old new
room_both (Ordered compare) limit one other old new a b = a
room_both Hashed limit one other old new a b = record { at_least = omega (arith, a.at_least, b.at_least); in_limit = a.in_limit }

module _ {T K V : Type 0} (key : T → K) (eq : K → K → Bool) (visits : V → T → V × T × Bool) where
  -- one step more at the end of a run
  pub run_more : (rule : MapRule K) (limit : _) (commands : List (Command T K V)) (replies : List (Reply T)) (command : Command T K V) (reply : Reply T) (first middle last : MapState T) → Run key eq visits limit rule first commands replies middle → Step key eq visits limit rule middle command reply last → Run key eq visits limit rule first (commands ++ command ∷ []) (replies ++ reply ∷ []) last
  run_more rule limit [] [] command reply first middle last ran step = (last, subst (λ s. Step key eq visits limit rule s command reply last) ran step, refl)
  run_more rule limit [] (r ∷ rs) command reply first middle last ran step = absurd ran
  run_more rule limit (c ∷ cs) [] command reply first middle last ran step = absurd ran
  run_more rule limit (c ∷ cs) (r ∷ rs) command reply first middle last (next, one, ran) step = (next, one, run_more rule limit cs rs command reply next middle last ran step)
