-- What a visitor makes of a list of items, one after another. A visit is a function of the visitor and an item: both afterwards,
-- and whether the item stays.
--     visitor_after      the visitor at the end
--     kept_by      the items that stay, as the visits leave them (`retain_mut`)
--     VisitsKeepKeys      no visit changes a key
use Rattle.std.specs.Prelude.{◌≡◌, Bool, true, List, [], ◌∷◌, if◌then◌else◌}

module _ {V T : Type 0} (visits : V → T → V × T × Bool) where
  abbrev pub visitor_after : V → List T → V
  visitor_after v [] = v
  visitor_after v (x ∷ xs) = visitor_after (visits v x).0 xs

  abbrev pub kept_by : V → List T → List T
  kept_by v [] = []
  kept_by v (x ∷ xs) = if (visits v x).2 then (visits v x).1 ∷ kept_by (visits v x).0 xs else kept_by (visits v x).0 xs

-- from any state of the visitor, and for any item
abbrev pub VisitsKeepKeys : {V T K : Type 0} → (T → K) → (K → K → Bool) → (V → T → V × T × Bool) → Type 0
VisitsKeepKeys {V} {T} key eq visits = (v : V) (x : T) → eq (key x) (key (visits v x).1) ≡ true
