-- What callers say of positions and ranges of pairs and of names.
use Rattle.std.specs.Prelude.{◌≡◌, ℕ, ◌-◌, false, List, Option, Some, IfSome, count_by, filter, length, slice_get, slice_set, string_bytes}
use Rattle.std.specs.Cmp.Lexicographic.{slice_cmp}
use Rattle.std.specs.Ordering.{is_ge, is_gt, is_le, nat_cmp}
use Rattle.std.specs.declared.ops.Bound.TheVariants.{Included, Excluded}
use Rattle.iddqd.specs.Contents.{IsAbsent, find_item}
use Rattle.iddqd.specs.IdOrdMap.{is_between, items_between}
use Rattle.test_writers.specs.declared.items.Named.{Named}
use Rattle.test_writers.specs.declared.items.Pair.{Pair}
use Rattle.test_writers.specs.Pairs.{pair_at}

-- the pair of the greatest key that is not above the number
abbrev pub last_pair_to : ℕ → List Pair → Option Pair
last_pair_to key pairs =
    let up_to = filter (λ p. is_ge (nat_cmp key p.key)) pairs in
    slice_get up_to (length up_to - 1)

abbrev pub rank_of_key : ℕ → List Pair → ℕ
rank_of_key key pairs = count_by (λ p. is_gt (nat_cmp key p.key)) pairs

-- how many names there are from one text up to another
abbrev pub name_count_between : List ℕ → List ℕ → List Named → ℕ
name_count_between from to names =
    length (items_between (λ text k. slice_cmp nat_cmp text (string_bytes k)) (λ x. x.name) (Included from) (Excluded to) names)

abbrev pub first_name_from : List ℕ → List Named → Option Named
first_name_from from names = find_item (λ x. x.name) (λ k. is_le (slice_cmp nat_cmp from (string_bytes k))) names

-- if there is a pair at the position, it has the value, and all else is as it was
abbrev pub SetsValueAt : ℕ → ℕ → List Pair → List Pair → Type 0
SetsValueAt index value old new = IfSome (slice_get old index) (λ p. new ≡ slice_set old index (record p { value = value }))

-- no key is between the two
abbrev pub IsGoneBetween : ℕ → ℕ → List Pair → Type 0
IsGoneBetween from to pairs = IsAbsent (λ p. p.key) (is_between nat_cmp (Included from) (Excluded to)) pairs

-- the value of the pair of a key that was not between the two
abbrev pub StaysBeside : ℕ → ℕ → ℕ → List Pair → Option ℕ → Type 0
StaysBeside from to key old value =
    IfSome (pair_at key old) (λ p. is_between nat_cmp (Included from) (Excluded to) p.key ≡ false → value ≡ Some p.value)
