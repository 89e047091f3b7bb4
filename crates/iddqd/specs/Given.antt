-- What a list that is passed to a call says of the items that the call took.
--     BeginsWith      the list begins with these items, and this one comes next
use Rattle.std.specs.Prelude.{◌≡◌, List, ◌∷◌, ◌++◌}

-- closed, so that a search takes it whole
unfoldable pub BeginsWith : {T : Type 0} → List T → T → List T → Type 0
BeginsWith before x items = (behind : List _) × (items ≡ before ++ x ∷ behind)
