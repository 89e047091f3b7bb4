-- The law of same replies: the items alone, in any order, say what an unrefused command returns and leaves.
--     sought, plain_reply, plain_items      the item that a command looks for, and with it the reply and the items then
--     step_plain      an unrefused step has this reply, and these items in some order
--     step_same, step_alike, run_same      one step, and a run, from the same items
use Rattle.std.proofs.Common.{true, ◌≡◌, ℕ, Bool, cond, not, List, [], ◌∷◌, length, Option, Some, None, IsPermutation, refl, sym, ap, ap₂, ◌∙◌, subst}
use Rattle.std.proofs.lemmas.List.Elements.{All-head, All-tail}
use Rattle.std.proofs.lemmas.List.Sorted.{IsPermutation-refl, IsPermutation-sym, IsPermutation-trans, IsPermutation-cons, IsPermutation-insert, IsPermutation-map, length_permutation}
use Rattle.std.specs.Cmp.{IsEquivalence}
use Rattle.std.specs.Prelude.{⊤}
use Rattle.std.specs.List.{All, IsDistinct}
use Rattle.iddqd.specs.Contents.{AddsItem, NoTwoAkin, find_item, items_without, items_overwritten}
use Rattle.iddqd.specs.Visiting.{VisitsKeepKeys}
use Rattle.idtable_commands.specs.SameReplies.{IsOrderless, IsUnrefused, HoldSameItems, RunUnrefused, SameReplies}
use Rattle.idtable_commands.specs.Step.{MapRule, MapState, Answers}
use Rattle.idtable_commands.specs.declared.commands.Command.{Command}
use Rattle.idtable_commands.specs.declared.commands.Command.TheVariants.{InsertUnique, InsertOverwrite, Get, Remove, Visit, RetainMut, Clear, Reserve, Shrink, Len, ExtendUnique}
use Rattle.idtable_commands.specs.declared.commands.Reply.{Reply}
use Rattle.idtable_commands.specs.declared.commands.Reply.TheVariants.{Inserted, Duplicate, Replaced, Found, Removed, Absent, Visited, Done, Length, Refused}
use Rattle.iddqd.proofs.KeepsLemmas.{differ_filter, differ_insert}
use Rattle.iddqd.proofs.OrderLemmas.{Tells, differ_moved, find_moved, find_tells}
use Rattle.idtable_commands.proofs.ExtendLemmas.{extended_ends, extended_same}
use Rattle.idtable_commands.proofs.SameCommandLemmas.{run_of_same}
use Rattle.idtable_commands.proofs.SameItemsLemmas.{differ_replaced}
use Rattle.iddqd.proofs.PermutationLemmas.{filter_permutation}

module _ {T K V : Type 0} (key : T → K) (eq : K → K → Bool) (visits : V → T → V × T × Bool) where
  abbrev sought : Command T K V → List T → Option T
  sought (InsertUnique x) items = find_item key (eq (key x)) items
  sought (InsertOverwrite x) items = find_item key (eq (key x)) items
  sought (Get k) items = find_item key (eq k) items
  sought (Remove k) items = find_item key (eq k) items
  sought (Visit k v) items = find_item key (eq k) items
  sought (RetainMut v) items = None
  sought Clear items = None
  sought (Reserve n) items = None
  sought Shrink items = None
  sought Len items = None
  sought (ExtendUnique xs) items = None

  abbrev plain_reply : Command T K V → Option T → ℕ → Reply T
  plain_reply (InsertUnique x) None count = Inserted
  plain_reply (InsertUnique x) (Some y) count = Duplicate x (Some y)
  plain_reply (InsertOverwrite x) None count = Inserted
  plain_reply (InsertOverwrite x) (Some y) count = Replaced y
  plain_reply (Get k) None count = Absent
  plain_reply (Get k) (Some y) count = Found y
  plain_reply (Remove k) None count = Absent
  plain_reply (Remove k) (Some y) count = Removed y
  plain_reply (Visit k v) None count = Absent
  plain_reply (Visit k v) (Some x) count = Visited (visits v x).2
  plain_reply (RetainMut v) found count = Done
  plain_reply Clear found count = Done
  plain_reply (Reserve n) found count = Done
  plain_reply Shrink found count = Done
  plain_reply Len found count = Length count
  plain_reply (ExtendUnique xs) found count = Done

  abbrev plain_items : Command T K V → Option T → List T → List T
  plain_items (InsertUnique x) None items = x ∷ items
  plain_items (InsertUnique x) (Some y) items = items
  plain_items (InsertOverwrite x) None items = x ∷ items
  plain_items (InsertOverwrite x) (Some y) items = items_overwritten key (eq (key x)) x items
  plain_items (Get k) found items = items
  plain_items (Remove k) None items = items
  plain_items (Remove k) (Some y) items = items_without key (eq k) items
  plain_items (Visit k v) None items = items
  plain_items (Visit k v) (Some x) items = items_overwritten key (eq k) (visits v x).1 items
  plain_items (RetainMut v) found items = items
  plain_items Clear found items = []
  plain_items (Reserve n) found items = items
  plain_items Shrink found items = items
  plain_items Len found items = items
  plain_items (ExtendUnique xs) found items = items

  -- at most one item plays a part in the reply
  abbrev IsSingle : Command T K V → Type 0
  IsSingle (ExtendUnique xs) = ⊥
  IsSingle _ = ⊤

  record IsPlain (command : Command T K V) (old : List T) (reply : Reply T) (new : List T) : Type 0 where
    replied : reply ≡ plain_reply command (sought command old) (length old)
    held : IsPermutation (plain_items command (sought command old) old) new

  plain_where : (command : Command T K V) (old : List T) (found : Option T) (reply : Reply T) (new : List T) → sought command old ≡ found → reply ≡ plain_reply command found (length old) → IsPermutation (plain_items command found old) new → IsPlain command old reply new
  plain_where command old found reply new e r h = record {
    replied = r ∙ ap (λ o. plain_reply command o (length old)) (sym e);
    held = subst (λ o. IsPermutation (plain_items command o old) new) (sym e) h;
  }

  now : (here new : List T) → new ≡ here → IsPermutation here new
  now here new e = subst (λ l. IsPermutation here l) (sym e) (IsPermutation-refl here)

  put_in : (x : T) (old new : List T) → AddsItem x old new → IsPermutation (x ∷ old) new
  put_in x old new a = subst (λ l. IsPermutation (x ∷ old) l) (sym a.put) (IsPermutation-insert old a.place x)

  module _ (limit : ℕ) (rule : MapRule K) (old : MapState T) (new : List T) where
    unique_plain : (x : T) (reply : Reply T) → Answers key eq visits limit rule (InsertUnique x) old reply new → IsUnrefused reply → IsPlain (InsertUnique x) old.items reply new
    unique_plain x Inserted a u = plain_where (InsertUnique x) old.items None Inserted new a.0 refl (put_in x old.items new a.2)
    unique_plain x (Duplicate back (Some e)) a u = plain_where (InsertUnique x) old.items (Some a.1) (Duplicate back (Some e)) new a.2 (ap₂ (λ b y. Duplicate b (Some y)) a.0 a.3) (now old.items new a.4)
    unique_plain x (Duplicate back None) a u = cc
    unique_plain x (Refused back kind) a u = absurd u
    unique_plain x reply a u = absurd a

    overwrite_plain : (x : T) (reply : Reply T) → Answers key eq visits limit rule (InsertOverwrite x) old reply new → IsUnrefused reply → IsPlain (InsertOverwrite x) old.items reply new
    overwrite_plain x Inserted a u = plain_where (InsertOverwrite x) old.items None Inserted new a.0 refl (put_in x old.items new a.2)
    overwrite_plain x (Replaced y) a u = plain_where (InsertOverwrite x) old.items (Some y) (Replaced y) new a.0 refl (now (items_overwritten key (eq (key x)) x old.items) new a.1)
    overwrite_plain x (Refused back kind) a u = absurd u
    overwrite_plain x reply a u = absurd a

    get_plain : (k : K) (reply : Reply T) → Answers key eq visits limit rule (Get k) old reply new → IsUnrefused reply → IsPlain (Get k) old.items reply new
    get_plain k (Found y) a u = plain_where (Get k) old.items (Some y) (Found y) new a.0 refl (now old.items new a.1)
    get_plain k Absent a u = plain_where (Get k) old.items None Absent new a.0 refl (now old.items new a.1)
    get_plain k (Refused back kind) a u = absurd u
    get_plain k reply a u = absurd a

    remove_plain : (k : K) (reply : Reply T) → Answers key eq visits limit rule (Remove k) old reply new → IsPlain (Remove k) old.items reply new
    remove_plain k (Removed y) a = plain_where (Remove k) old.items (Some y) (Removed y) new a.0 refl (now (items_without key (eq k) old.items) new a.1)
    remove_plain k Absent a = plain_where (Remove k) old.items None Absent new a.0 refl (now old.items new a.1)
    remove_plain k reply a = absurd a

    visit_plain : (k : K) (v : V) (reply : Reply T) → Answers key eq visits limit rule (Visit k v) old reply new → IsPlain (Visit k v) old.items reply new
    visit_plain k v (Visited answer) (w, saw) =
        plain_where (Visit k v) old.items (Some saw.0) (Visited answer) new saw.2 (ap (λ p. Visited p.2) (sym saw.3)) (now (items_overwritten key (eq k) (visits v saw.0).1 old.items) new (saw.4 ∙ ap (λ p. items_overwritten key (eq k) p.1 old.items) (sym saw.3)))
    visit_plain k v Absent a = plain_where (Visit k v) old.items None Absent new a.0 refl (now old.items new a.1)
    visit_plain k v reply a = absurd a

    clear_plain : (reply : Reply T) → Answers key eq visits limit rule Clear old reply new → IsPlain Clear old.items reply new
    clear_plain Done a = record { replied = refl; held = now [] new a }
    clear_plain reply a = absurd a

    reserve_plain : (n : ℕ) (reply : Reply T) → Answers key eq visits limit rule (Reserve n) old reply new → IsUnrefused reply → IsPlain (Reserve n) old.items reply new
    reserve_plain n Done a u = record { replied = refl; held = now old.items new a.1 }
    reserve_plain n (Refused back kind) a u = absurd u
    reserve_plain n reply a u = absurd a

    shrink_plain : (reply : Reply T) → Answers key eq visits limit rule Shrink old reply new → IsUnrefused reply → IsPlain Shrink old.items reply new
    shrink_plain Done a u = record { replied = refl; held = a }
    shrink_plain (Refused back kind) a u = absurd u
    shrink_plain reply a u = absurd a

    len_plain : (reply : Reply T) → Answers key eq visits limit rule Len old reply new → IsPlain Len old.items reply new
    len_plain (Length n) a = record { replied = ap Length a.0; held = now old.items new a.1 }
    len_plain reply a = absurd a

    step_plain : (command : Command T K V) (reply : Reply T) → IsSingle command → IsOrderless command → Answers key eq visits limit rule command old reply new → IsUnrefused reply → IsPlain command old.items reply new
    step_plain (InsertUnique x) reply i o a u = unique_plain x reply a u
    step_plain (InsertOverwrite x) reply i o a u = overwrite_plain x reply a u
    step_plain (Get k) reply i o a u = get_plain k reply a u
    step_plain (Remove k) reply i o a u = remove_plain k reply a
    step_plain (Visit k v) reply i o a u = visit_plain k v reply a
    step_plain (RetainMut v) reply i o a u = absurd o
    step_plain Clear reply i o a u = clear_plain reply a
    step_plain (Reserve n) reply i o a u = reserve_plain n reply a u
    step_plain Shrink reply i o a u = shrink_plain reply a u
    step_plain Len reply i o a u = len_plain reply a
    step_plain (ExtendUnique xs) reply i o a u = absurd i

module _ {T K V : Type 0} (key : T → K) (eq : K → K → Bool) (visits : V → T → V × T × Bool) (equivalence : IsEquivalence eq) (keeps : VisitsKeepKeys key eq visits) where
  sought_same : (command : Command T K V) (xs ys : List T) → HoldSameItems key eq xs ys → sought key eq visits command xs ≡ sought key eq visits command ys
  sought_same (InsertUnique x) xs ys h = sym (find_moved key equivalence (eq (key x)) (equivalence.congr (key x)) xs ys h.same h.differ)
  sought_same (InsertOverwrite x) xs ys h = sym (find_moved key equivalence (eq (key x)) (equivalence.congr (key x)) xs ys h.same h.differ)
  sought_same (Get k) xs ys h = sym (find_moved key equivalence (eq k) (equivalence.congr k) xs ys h.same h.differ)
  sought_same (Remove k) xs ys h = sym (find_moved key equivalence (eq k) (equivalence.congr k) xs ys h.same h.differ)
  sought_same (Visit k v) xs ys h = sym (find_moved key equivalence (eq k) (equivalence.congr k) xs ys h.same h.differ)
  sought_same (RetainMut v) xs ys h = refl
  sought_same Clear xs ys h = refl
  sought_same (Reserve n) xs ys h = refl
  sought_same Shrink xs ys h = refl
  sought_same Len xs ys h = refl
  sought_same (ExtendUnique zs) xs ys h = refl

  -- the query is equivalent to the keys that the visited item's own is equal to
  own_test : (k : K) (v : V) (x : T) (xs : List T) → find_item key (eq k) xs ≡ Some x → eq k ≡ eq (key (visits v x).1)
  own_test k v x xs e i z =
      let passes : eq k (key x) ≡ true = (subst (Tells (λ w. eq k (key w)) xs) e (find_tells (λ w. eq k (key w)) xs)).1 in
      let same : eq k (key (visits v x).1) ≡ true = equivalence.congr k (key x) (key (visits v x).1) passes ∙ keeps v x in
      equivalence.congr k (key (visits v x).1) z same i

  items_same : (command : Command T K V) (found : Option T) (xs ys : List T) → sought key eq visits command xs ≡ found → HoldSameItems key eq xs ys → HoldSameItems key eq (plain_items key eq visits command found xs) (plain_items key eq visits command found ys)
  unfolding IsDistinct
  items_same (InsertUnique x) None xs ys e h = record { same = IsPermutation-cons x xs ys h.same; differ = differ_insert key equivalence x xs 0 e h.differ }
  items_same (InsertUnique x) (Some y) xs ys e h = h
  items_same (InsertOverwrite x) None xs ys e h = record { same = IsPermutation-cons x xs ys h.same; differ = differ_insert key equivalence x xs 0 e h.differ }
  items_same (InsertOverwrite x) (Some y) xs ys e h = record { same = IsPermutation-map (λ w. cond (eq (key x) (key w)) x w) xs ys h.same; differ = differ_replaced key equivalence x xs h.differ }
  items_same (Get k) found xs ys e h = h
  items_same (Remove k) None xs ys e h = h
  items_same (Remove k) (Some y) xs ys e h = record { same = filter_permutation (λ w. not (eq k (key w))) xs ys h.same; differ = differ_filter key eq (λ w. not (eq k (key w))) xs h.differ }
  items_same (Visit k v) None xs ys e h = h
  items_same (Visit k v) (Some x) xs ys e h =
      let y = (visits v x).1 in
      record { same = IsPermutation-map (λ w. cond (eq k (key w)) y w) xs ys h.same; differ = subst (λ test. NoTwoAkin key eq (items_overwritten key test y xs)) (sym (own_test k v x xs e)) (differ_replaced key equivalence y xs h.differ) }
  items_same (RetainMut v) found xs ys e h = h
  items_same (Reserve n) found xs ys e h = h
  items_same Shrink found xs ys e h = h
  items_same Clear found xs ys e h = record { same = IsPermutation-refl []; differ = tt }
  items_same Len found xs ys e h = h
  items_same (ExtendUnique zs) found xs ys e h = h

  step_same : (command : Command T K V) (xs ys : List T) (reply1 reply2 : Reply T) (new1 new2 : List T) → HoldSameItems key eq xs ys → IsPlain key eq visits command xs reply1 new1 → IsPlain key eq visits command ys reply2 new2 → (reply1 ≡ reply2) × HoldSameItems key eq new1 new2
  step_same command xs ys reply1 reply2 new1 new2 h p q =
      let found = sought key eq visits command xs in
      let alike = sought_same command xs ys h in
      let then = items_same command found xs ys refl h in
      let other = subst (λ o. IsPermutation (plain_items key eq visits command o ys) new2) (sym alike) q.held in (
        p.replied ∙ (ap₂ (λ o n. plain_reply key eq visits command o n) alike (sym (length_permutation xs ys h.same)) ∙ sym q.replied),
        record {
          same = IsPermutation-trans new1 (plain_items key eq visits command found xs) new2 (IsPermutation-sym (plain_items key eq visits command found xs) new1 p.held) (IsPermutation-trans (plain_items key eq visits command found xs) (plain_items key eq visits command found ys) new2 then.same other);
          differ = differ_moved key equivalence (plain_items key eq visits command found xs) new1 p.held then.differ;
        },
      )

  module _ (limit1 limit2 : ℕ) (rule1 rule2 : MapRule K) (old1 old2 : MapState T) (new1 new2 : List T) (h : HoldSameItems key eq old1.items old2.items) (r s : Reply T) where
    alike_plain : (command : Command T K V) → IsSingle key eq visits command → IsOrderless command → Answers key eq visits limit1 rule1 command old1 r new1 → IsUnrefused r → Answers key eq visits limit2 rule2 command old2 s new2 → IsUnrefused s → (r ≡ s) × HoldSameItems key eq new1 new2
    alike_plain command i o a u b v = step_same command old1.items old2.items r s new1 new2 h (step_plain key eq visits limit1 rule1 old1 new1 command r i o a u) (step_plain key eq visits limit2 rule2 old2 new2 command s i o b v)

    step_alike : (command : Command T K V) → IsOrderless command → Answers key eq visits limit1 rule1 command old1 r new1 → IsUnrefused r → Answers key eq visits limit2 rule2 command old2 s new2 → IsUnrefused s → (r ≡ s) × HoldSameItems key eq new1 new2
    step_alike (InsertUnique x) o a u b v = alike_plain (InsertUnique x) tt o a u b v
    step_alike (InsertOverwrite x) o a u b v = alike_plain (InsertOverwrite x) tt o a u b v
    step_alike (Get k) o a u b v = alike_plain (Get k) tt o a u b v
    step_alike (Remove k) o a u b v = alike_plain (Remove k) tt o a u b v
    step_alike (Visit k w) o a u b v = alike_plain (Visit k w) tt o a u b v
    step_alike (RetainMut w) o a u b v = absurd o
    step_alike Clear o a u b v = alike_plain Clear tt o a u b v
    step_alike (Reserve n) o a u b v = alike_plain (Reserve n) tt o a u b v
    step_alike Shrink o a u b v = alike_plain Shrink tt o a u b v
    step_alike Len o a u b v = alike_plain Len tt o a u b v
    step_alike (ExtendUnique xs) o a u b v =
        extended_same key equivalence xs.items old1.items old2.items r s new1 new2 h (extended_ends key equivalence visits limit1 rule1 xs old1 new1 r a u) (extended_ends key equivalence visits limit2 rule2 xs old2 new2 s b v)

  module _ (limit1 limit2 : ℕ) (rule1 rule2 : MapRule K) where
    run_same : (commands : List (Command T K V)) (replies1 replies2 : List (Reply T)) (old1 old2 new1 new2 : MapState T) → All IsOrderless commands → HoldSameItems key eq old1.items old2.items → RunUnrefused key eq visits limit1 rule1 old1 commands replies1 new1 → RunUnrefused key eq visits limit2 rule2 old2 commands replies2 new2 → (replies1 ≡ replies2) × HoldSameItems key eq new1.items new2.items
    run_same [] [] [] old1 old2 new1 new2 o h a b = (refl, subst (λ s. HoldSameItems key eq s.items new2.items) (sym a.0) (subst (λ s. HoldSameItems key eq old1.items s.items) (sym b.0) h))
    run_same [] [] (s ∷ ss) old1 old2 new1 new2 o h a b = absurd b.0
    run_same [] (r ∷ rs) replies2 old1 old2 new1 new2 o h a b = absurd a.0
    run_same (c ∷ cs) [] replies2 old1 old2 new1 new2 o h a b = absurd a.0
    run_same (c ∷ cs) (r ∷ rs) [] old1 old2 new1 new2 o h a b = absurd b.0
    run_same (c ∷ cs) (r ∷ rs) (s ∷ ss) old1 old2 new1 new2 o h ((middle1, one1, rest1), u1) ((middle2, one2, rest2), u2) =
        let first = step_alike limit1 limit2 rule1 rule2 old1 old2 middle1.items middle2.items h r s c (All-head IsOrderless c cs o) one1.does.answers (All-head IsUnrefused r rs u1) one2.does.answers (All-head IsUnrefused s ss u2) in
        let rest = run_same cs rs ss middle1 middle2 new1 new2 (All-tail IsOrderless c cs o) first.1 (rest1, All-tail IsUnrefused r rs u1) (rest2, All-tail IsUnrefused s ss u2) in
        (ap₂ (λ t ts. t ∷ ts) first.0 rest.0, rest.1)

pub same_replies : {T K V : Type 0} → SameReplies T K V
same_replies key eq equivalence visits keeps limit1 limit2 rule1 rule2 old1 old2 new1 new2 commands1 commands2 replies1 replies2 same o h a b =
    let again = run_of_same key eq visits limit2 rule2 commands1 commands2 same old2 replies2 new2 b.0 in
    run_same key eq visits equivalence keeps limit1 limit2 rule1 rule2 commands1 replies1 replies2 old1 old2 new1 new2 o h a (again, b.1)
