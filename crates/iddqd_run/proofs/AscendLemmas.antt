-- Entries in the order of their names.
--     entries_are      the entries of items that ascend by name are those that are shown
--     by_name_of      if the names ascend, so do the entries
--     by_name_sorted      what a sort by names leaves, if the names differ
use Rattle.std.proofs.Common.{◌≡◌, ℕ, ◌+◌, ◌<◌, false, List, [], ◌∷◌, length, map, get_or, refl, ap, ◌∙◌, arith, Ordering, Less, Equal, Greater, String, Global, string_bytes, IsPermutation}
use Rattle.std.proofs.lemmas.List.Sorted.{IsPermutation-map, IsPermutation-sym, IsPermutation-trans}
use Rattle.std.specs.Cmp.Lexicographic.{nat_list_cmp_total, texts_ties}
use Rattle.std.specs.List.{AllByRecursion}
use Rattle.std.specs.List.Sorted.{IsStrictlySortedBy}
use Rattle.std.specs.Ordering.{is_eq, is_lt, ordering_reverse}
use Rattle.std.specs.Prelude.{string_cmp, string_eq}
use Rattle.std.specs.String.{string_cmp_total}
use Rattle.std.proofs.Common.{Bor}
use Rattle.std.proofs.lemmas.List.{get_or-map, length-map}
use Rattle.std.proofs.lemmas.Map.Keys.{apart_from_distinct, sorted_from_all_adjacent}
use Rattle.std.specs.List.Sorted.{IsSortedBy}
use Rattle.iddqd.specs.Contents.{Ascends, NoTwoAkin}
use Rattle.idtable_commands.proofs.AscendLemmas.{same_ascending}
use Rattle.iddqd_run.specs.Answer as answer
use Rattle.iddqd_run.specs.Answer.{name_of, name_cmp}
use Rattle.iddqd_run.specs.Shown.{AreByName, ShowsEntries, all_lent, entries_of, entry_of}
use Rattle.iddqd_run.specs.declared.entries.Entry.{Entry}

-- the items, in the order of their names, are what the entries show
pub entries_are : (items sorted : List Entry) (entries : List answer.Entry) → IsPermutation items sorted → AreByName sorted → ShowsEntries items entries → entries ≡ entries_of sorted
entries_are items sorted entries same ascending shows =
    let one = IsPermutation-map entry_of items sorted same in
    let there = IsPermutation-trans entries (entries_of items) (entries_of sorted) (IsPermutation-sym (entries_of items) entries shows.same) one in
    same_ascending name_of nat_list_cmp_total entries (entries_of sorted) there shows.ascending ascending

-- if the names ascend, so do the entries
pub by_name_of : (items : List Entry) → Ascends (λ entry. entry.name) string_cmp items → AreByName items
unfolding IsStrictlySortedBy
by_name_of [] s = tt
by_name_of (x ∷ xs) s = (all xs s.0, by_name_of xs s.1)
  where
    all : (ys : List Entry) → AllByRecursion (λ name. string_cmp x.name name ≡ Less) (map (λ entry. entry.name) ys) → AllByRecursion (λ name. name_cmp (string_bytes x.name) name ≡ Less) (map name_of (entries_of ys))
    all [] a = tt
    all (y ∷ ys) a = (a.0, all ys a.1)

above : (one other : String Global) → is_lt (string_cmp other one) ≡ false → string_eq one other ≡ false → string_cmp one other ≡ Less
above one other not_less differ = by (string_cmp one other) refl
  where
    by : (r : Ordering) → string_cmp one other ≡ r → string_cmp one other ≡ Less
    by Less e = e
    by Equal e = absurd (let tie = texts_ties (string_bytes one) (string_bytes other) in let same = ap is_eq e in cc)
    by Greater e = absurd (let turned = string_cmp_total.antisymm other one ∙ ap ordering_reverse e in let less = ap is_lt turned in cc)

-- what a sort by names leaves, if the names differ
pub by_name_sorted : (lent : List (Bor Entry)) → IsSortedBy (λ one other. is_lt (string_cmp one.now.name other.now.name)) lent → NoTwoAkin (λ entry. entry.name) string_eq (all_lent lent) → AreByName (all_lent lent)
unfolding IsStrictlySortedBy
by_name_sorted lent sorted differ = by_name_of (all_lent lent) (names lent sorted differ)
  where
    names : (lent : List (Bor Entry)) → IsSortedBy (λ one other. is_lt (string_cmp one.now.name other.now.name)) lent → NoTwoAkin (λ entry. entry.name) string_eq (all_lent lent) → Ascends (λ entry. entry.name) string_cmp (all_lent lent)
    names [] sorted differ = tt
    names (one ∷ lent) sorted differ =
        let all = one ∷ lent in
        let ks = map (λ entry. entry.name) (all_lent all) in
        let long : length ks ≡ length all = length-map (all_lent all) (λ entry. entry.name) ∙ length-map all (λ l. l.now) in
        let at : (k : ℕ) → k < length all → get_or ks k one.now.name ≡ (get_or all k one).now.name
        = λ k h. get_or-map (λ entry. entry.name) (all_lent all) k one.now one.now.name (omega (arith, h, length-map all (λ l. l.now))) ∙ ap (λ entry. entry.name) (get_or-map (λ l. l.now) all k one one.now h) in
        sorted_from_all_adjacent string_cmp_total ks one.now.name (λ k h.
        let next : k + 1 < length all = omega (arith, h, long) in
        let here : k < length all = omega (arith, h, long) in
        above (get_or ks k one.now.name) (get_or ks (k + 1) one.now.name)
        (ap (λ a. is_lt (string_cmp a (get_or ks k one.now.name))) (at (k + 1) next) ∙ ap (λ a. is_lt (string_cmp (get_or all (k + 1) one).now.name a)) (at k here) ∙ sorted k one (omega arith) next)
        (apart_from_distinct string_eq ks k (k + 1) one.now.name differ (omega arith) h))
