-- What two maps replied to the same commands.
use Rattle.std.specs.Prelude.{◌≡◌, All, IfSome, List, Option, nat_eq}
use Rattle.idtable_commands.specs.SameReplies.{HoldSameItems, IsUnrefused}
use Rattle.test_callers.specs.declared.runs.BothReplies.{BothReplies}
use Rattle.test_writers.specs.declared.items.Pair.{Pair}

-- neither refused anything
abbrev pub AreUnrefused : BothReplies → Type 0
AreUnrefused both = All IsUnrefused both.hashed.items × All IsUnrefused both.ordered.items

-- both ran, and this holds of their replies if neither refused anything
abbrev pub IfUnrefused : Option BothReplies → (BothReplies → Type 0) → Type 0
IfUnrefused replies P = IfSome replies (λ both. AreUnrefused both → P both)

-- the replies are equal
abbrev pub AreSame : BothReplies → Type 0
AreSame both = both.hashed.items ≡ both.ordered.items

-- both maps hold the same pairs, in any order
abbrev pub HoldSamePairs : (one other : List Pair) → Type 0
HoldSamePairs one other = HoldSameItems (λ p. p.key) nat_eq one other
