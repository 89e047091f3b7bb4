-- What a lookup by a text, by a key or by a number finds, the items with another one in its place, and what a caller writes, adds
-- or removes by them.
use Rattle.std.specs.Prelude.{◌≡◌, ◌≢◌, ℕ, ◌+◌, ◌-◌, ◌==◌, List, Option, Some, IfNone, IfSome, String, length, slice_get, slice_set, option_map, string_bytes, sum_by, unwrap_or}
use Rattle.std.specs.Str.{bytes_eq}
use Rattle.std.specs.String.{string_eq}
use Rattle.std.specs.declared.alloc.Global.{Global}
use Rattle.iddqd.specs.Contents.{AddsItem, find_item, items_overwritten, items_without}
use Rattle.test_writers.specs.declared.items.Named.{Named}
use Rattle.test_writers.specs.declared.items.Pair.{Pair}
use Rattle.test_writers.specs.Pairs.{pair_at}
use Rattle.test_callers.specs.declared.items.Noted.{Noted}

abbrev pub of_name : List ℕ → List Named → Option Named
of_name name items = find_item (λ x. x.name) (λ k. bytes_eq name (string_bytes k)) items

abbrev pub put_at_name : List ℕ → Named → List Named → List Named
put_at_name name y items = items_overwritten (λ x. x.name) (λ k. bytes_eq name (string_bytes k)) y items

abbrev pub of_key : String Global → List Named → Option Named
of_key name items = find_item (λ x. x.name) (string_eq name) items

abbrev pub put_at_key : String Global → Named → List Named → List Named
put_at_key name y items = items_overwritten (λ x. x.name) (string_eq name) y items

abbrev pub of_number : ℕ → List Noted → Option Noted
of_number number items = find_item (λ x. x.number) (λ k. number == k) items

-- each other name, or number, finds what it found
abbrev pub KeepsOtherNames : List ℕ → (old new : List Named) → Type 0
KeepsOtherNames name old new = (other : List ℕ) → other ≢ name → of_name other new ≡ of_name other old

abbrev pub KeepsOtherNumbers : ℕ → (old new : List Noted) → Type 0
KeepsOtherNumbers number old new = (other : ℕ) → other ≢ number → of_number other new ≡ of_number other old

-- the sum of the values, and the value of an item, or 0
abbrev pub total : List Named → ℕ
total items = sum_by (λ x. x.value) items

abbrev pub value_of : Option Named → ℕ
value_of found = unwrap_or (option_map (λ x. x.value) found) 0

-- the item, once the value is written to it
abbrev pub with_value : ℕ → Named → Named
with_value value x = record x { value = value }

-- the items without the one of the name
abbrev pub without_name : List ℕ → List Named → List Named
without_name name items = items_without (λ x. x.name) (λ k. bytes_eq name (string_bytes k)) items

-- the last of them, or none
abbrev pub last_of : {T : Type 0} → List T → Option T
last_of items = slice_get items (length items - 1)

-- if there is an item of the name, by a text or by a key, the value is written to it, and all else is as it was
abbrev pub SetsAtName : List ℕ → ℕ → (old new : List Named) → Type 0
SetsAtName name value old new = IfSome (of_name name old) (λ x. new ≡ put_at_name name (with_value value x) old)

abbrev pub SetsAtKey : String Global → ℕ → (old new : List Named) → Type 0
SetsAtKey name value old new = IfSome (of_key name old) (λ x. new ≡ put_at_key name (with_value value x) old)

-- what the name finds then is the item, with the value written to it
abbrev pub ReadsAtName : List ℕ → ℕ → (old new : List Named) → Type 0
ReadsAtName name value old new = IfSome (of_name name old) (λ x. of_name name new ≡ Some (with_value value x))

-- the written value is in the sum, in place of the one that was there
abbrev pub SumsAtName : List ℕ → ℕ → (old new : List Named) → Type 0
SumsAtName name value old new = IfSome (of_name name old) (λ x. total new + x.value ≡ total old + value)

-- if there is a first pair, the value is written to it, and all else is as it was
abbrev pub SetsFirst : ℕ → (old new : List Pair) → Type 0
SetsFirst value old new = IfSome (slice_get old 0) (λ p. new ≡ slice_set old 0 (record p { value = value }))

-- if there is an item of this one's name, this one is in its place, and all else is as it was
abbrev pub Replaces : Named → (old new : List Named) → Type 0
Replaces item old new = IfSome (of_key item.name old) (λ _. new ≡ put_at_key item.name item old)

-- if there is no item of its name, or no pair of the key, it is added beside the others
abbrev pub AddsIfNew : Named → (old new : List Named) → Type 0
AddsIfNew item old new = IfNone (of_key item.name old) (AddsItem item old new)

abbrev pub AddsPairIfNew : (key value : ℕ) → (old new : List Pair) → Type 0
AddsPairIfNew key value old new = IfNone (pair_at key old) (AddsItem (record { key = key; value = value }) old new)
