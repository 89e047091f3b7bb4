-- What a lookup by a key of a caller's own type finds, by the key type's own `==`.
use Rattle.std.specs.Prelude.{◌≡◌, ℕ, Bool, IfSome, List, Option, Some, false}
use Rattle.iddqd.specs.Contents.{find_item}
use Rattle.test_callers.specs.declared.items.At.{At}
use Rattle.test_callers.specs.declared.items.Event.{Event}

-- each key that is not equal to this one finds what it found
abbrev pub KeepsOtherKeys : {T K : Type 0} → (T → K) → (K → K → Bool) → K → (old new : List T) → Type 0
KeepsOtherKeys key eq k old new = (other : _) → eq other k ≡ false → find_item key (eq other) new ≡ find_item key (eq other) old

-- the event, once it is written how long it took
abbrev pub with_took : ℕ → Event → Event
with_took took e = record e { took = took }

-- what the key finds then is the event, with that written to it
abbrev pub ReadsTook : (At → At → Bool) → At → ℕ → (old new : List Event) → Type 0
ReadsTook eq at took old new = IfSome (find_item (λ e. e.at) (eq at) old) (λ e. find_item (λ e. e.at) (eq at) new ≡ Some (with_took took e))
