-- A list that another one begins or ends with. No public clause cites this module.
use Rattle.std.specs.Prelude.{◌≡◌, ℕ, ◌<◌, ◌≤◌, List, ◌++◌, drop, length, remove, take}

abbrev pub BeginsWith : List ℕ → List ℕ → Type 0
BeginsWith front all = (rest : List ℕ) × (all ≡ front ++ rest)

abbrev pub EndsWith : List ℕ → List ℕ → Type 0
EndsWith back all = (front : List ℕ) × (all ≡ front ++ back)

-- a walk over a list from one position up to another, with what it has read ahead from the front and from the back
abbrev pub IsWalkOver : List ℕ → (next end : ℕ) → (leaves back : List ℕ) → Type 0
IsWalkOver all next end leaves back = (next ≤ end) × (end ≤ length all) × BeginsWith leaves (drop next all) × EndsWith back (take end all)

-- slots that stand side by side in a list, and the position of the first
pub record Run : Type 0 where
  pub slots : List ℕ
  pub start : ℕ

abbrev pub IsRunOf : Run → List ℕ → Type 0
IsRunOf run all = BeginsWith run.slots (drop run.start all)

-- a run of a list is one still once the list has lost the slot at the position
abbrev pub FollowsRemoval : ℕ → Run → Run → Type 0
FollowsRemoval at old new = (all : List ℕ) → at < length all → IsRunOf old all → IsRunOf new (remove all at)
