-- The law that no reply tells one map from another while nothing is refused. It speaks of step and run alone (Step), so of every map whose calls keep to them.
--     It rests on three facts of those definitions. A search finds at most one item, since no two have equal keys, so their order
-- plays no part.
--     A new item may stand anywhere among the others. The limit and the spare tell only whether something is refused.
use Rattle.std.specs.Prelude.{◌≡◌, ℕ, Bool, List, IsSome, ⊤, All, IsPermutation}
use Rattle.std.specs.Cmp.{IsEquivalence}
use Rattle.std.specs.Global.{Vec}
use Rattle.std.specs.List.{AllZip}
use Rattle.iddqd.specs.Contents.{ClonesAreEqual, NoTwoAkin}
use Rattle.iddqd.specs.Visiting.{VisitsKeepKeys}
use Rattle.idtable_commands.specs.Step.{MapRule, MapState, Run}
use Rattle.idtable_commands.specs.declared.commands.Command.{Command}
use Rattle.idtable_commands.specs.declared.commands.Command.TheVariants.{ExtendUnique, RetainMut}
use Rattle.idtable_commands.specs.declared.commands.Reply.{Reply}
use Rattle.idtable_commands.specs.declared.commands.Reply.TheVariants.{Duplicate, Refused, Conflict, Stopped}

-- neither room for an item nor memory for a clone was refused
abbrev pub IsUnrefused : {T : Type 0} → Reply T → Type 0
IsUnrefused (Refused back kind) = ⊥
IsUnrefused (Duplicate back existing) = IsSome existing
IsUnrefused (Stopped back kind after) = ⊥
IsUnrefused (Conflict back existing after) = IsSome existing
IsUnrefused _ = ⊤

-- the order of the items plays no part; what the visitor of a `RetainMut` returns may depend on it
abbrev pub IsOrderless : {T K V : Type 0} → Command T K V → Type 0
IsOrderless (RetainMut visitor) = ⊥
IsOrderless _ = ⊤

-- the same command, with the same items if it has many, in any vector: so a clone is the same as its original
abbrev pub SameCommand : {T K V : Type 0} → Command T K V → Command T K V → Type 0
SameCommand {T} (ExtendUnique xs) other = (ys : Vec T) × (other ≡ ExtendUnique ys) × (ys.items ≡ xs.items)
SameCommand one other = other ≡ one

-- if clones of items, of keys and of visitors equal their originals, clones of commands are the same commands
abbrev pub ClonesMatch : {T K V : Type 0} → (T → T → Type 0) → (K → K → Type 0) → (V → V → Type 0) → (Command T K V → Command T K V → Type 0) → Type 0
ClonesMatch item_clone key_clone visitor_clone is_clone =
    ClonesAreEqual item_clone → ClonesAreEqual key_clone → ClonesAreEqual visitor_clone
    → (ones others : List (Command _ _ _)) → AllZip is_clone ones others → AllZip SameCommand ones others

module _ {T K : Type 0} (key : T → K) (eq : K → K → Bool) where
  -- two maps hold the same items, each in an order of its own, and no two of them have equal keys
  pub record HoldSameItems (one other : List T) : Type 0 where
    pub same : IsPermutation one other
    pub differ : NoTwoAkin key eq one

  -- one map's run, in which nothing was refused
  abbrev pub RunUnrefused : {V : Type 0} (visits : V → T → V × T × Bool) → ℕ → MapRule K → MapState T → List (Command T K V) → List (Reply T) → MapState T → Type 0
  RunUnrefused visits limit rule old commands replies new = Run key eq visits limit rule old commands replies new × All IsUnrefused replies

-- Two maps that hold the same items, of any limits and rules, give the same replies to the same commands, and hold the same items
-- then. `RetainMut` is not among the commands, and neither map refuses anything
abbrev pub SameReplies : Type 0 → Type 0 → Type 0 → Type 0
SameReplies T K V =
    (key : T → K) (eq : K → K → Bool) → IsEquivalence eq → (visits : V → T → V × T × Bool) → VisitsKeepKeys key eq visits
    → (limit1 limit2 : ℕ) (rule1 rule2 : MapRule K) (old1 old2 new1 new2 : MapState T) (commands1 commands2 : List (Command T K V)) (replies1 replies2 : List (Reply T))
    → AllZip SameCommand commands1 commands2
    → All IsOrderless commands1
    → HoldSameItems key eq old1.items old2.items
    → RunUnrefused key eq visits limit1 rule1 old1 commands1 replies1 new1
    → RunUnrefused key eq visits limit2 rule2 old2 commands2 replies2 new2
    → (replies1 ≡ replies2) × HoldSameItems key eq new1.items new2.items
