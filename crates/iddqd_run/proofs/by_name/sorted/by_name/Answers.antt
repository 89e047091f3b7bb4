use Rattle.std.proofs.Common.{IsPermutation, rules, subst}
use Rattle.std.proofs.lemmas.List.MinMax.{ranks_by}
use Rattle.std.proofs.lemmas.List.Sorted.{IsPermutation-map, answers_always}
use Rattle.std.specs.Ordering.{is_lt}
use Rattle.std.specs.Prelude.{string_cmp}
use Rattle.std.specs.String.{string_cmp_total, string_eq_equiv}
use Rattle.iddqd.proofs.OrderLemmas.{differ_moved}
use Rattle.iddqd_run.specs.Shown.{all_lent}
use Rattle.iddqd_run.proofs.AscendLemmas.{by_name_sorted}
use Rattle.iddqd_run.proofs.by_name.sorted.by_name.Goals as goal

pub returns-clause-same : goal.returns-clause-same
returns-clause-same c =
    subst (λ items. IsPermutation items (all_lent c.sort_unstable_by.new.self.items)) c.in_ok-sorted.ensures
    (IsPermutation-map (λ one. one.now) c.in_ok-sorted.sorted.items c.sort_unstable_by.new.self.items c.sort_unstable_by.ensures.permutation)

pub returns-clause-ascending : goal.returns-clause-ascending
returns-clause-ascending c =
    by_name_sorted c.sort_unstable_by.new.self.items
    (c.sort_unstable_by.ensures.sorted (λ one other. is_lt (string_cmp one.now.name other.now.name)) (ranks_by string_cmp_total (λ one. one.now.name)) (answers_always _ _ _ (λ f a r h k. search rules)))
    (differ_moved (λ entry. entry.name) string_eq_equiv c.args.map.now.items (all_lent c.sort_unstable_by.new.self.items) (returns-clause-same c) c.requires.differ)

pub returns-in_err-sorted-clause-same : goal.returns-in_err-sorted-clause-same
returns-in_err-sorted-clause-same c = search rules

pub returns-in_err-sorted-clause-ascending : goal.returns-in_err-sorted-clause-ascending
returns-in_err-sorted-clause-ascending c = search rules
