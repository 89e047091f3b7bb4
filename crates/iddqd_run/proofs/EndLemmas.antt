-- The replies to the words of a table's ends, and of its list.
--     unsupported_end, plain_end      `first` and `last`
--     unsupported_pop, plain_pop      `popfirst` and `poplast`
--     lists_items      `list`
use Rattle.std.proofs.Common.{◌≡◌, ℕ, suc, ◌-◌, List, ◌++◌, length, drop, take, Option, sym, ap, ◌∙◌, subst, arith, append-nil, IsPermutation}
use Rattle.std.specs.Global.{Global}
use Rattle.std.specs.Prelude.{String, codes, decimal}
use Rattle.std.proofs.lemmas.List.{drop_all, length-map}
use Rattle.std.proofs.lemmas.List.Sorted.{IsPermutation-refl}
use Rattle.std.proofs.lemmas.Option.{slice_get-map}
use Rattle.std.specs.List.{remove, slice_get}
use Rattle.std.specs.Option.{option_map}
use Rattle.iddqd.proofs.KeepsLemmas.{ascends_remove}
use Rattle.iddqd.proofs.MappedLemmas.{remove-map}
use Rattle.iddqd_run.specs.Answer as answer
use Rattle.iddqd_run.specs.Answer.{by_ends, end_text, list_text, name_of, name_cmp}
use Rattle.idtable_lines.specs.Lines.{Request, First, Last, PopFirst, PopLast}
use Rattle.iddqd_run.specs.Shown.{AnswersPlainly, AnswersRequest, AppendsList, AreByName, HasEnds, ListsItems, ShowsEntries, entries_of, entry_of, refusals_of, reply_text}
use Rattle.idtable_lines.specs.declared.arguments.Kind.{Kind}
use Rattle.idtable_lines.specs.declared.arguments.Kind.TheVariants.{Hash, Ord}
use Rattle.iddqd_run.specs.declared.entries.Entry.{Entry}
use Rattle.iddqd_run.specs.declared.entries.LineReply.{LineReply}
use Rattle.iddqd_run.specs.declared.entries.LineReply.TheVariants.{RefusedMemory, Unsupported}
use Rattle.iddqd_run.proofs.AscendLemmas.{entries_are}

pub remove_last : {X : Type 0} (xs : List X) → remove xs (length xs - 1) ≡ take (length xs - 1) xs
remove_last xs = ap (λ rest. take (length xs - 1) xs ++ rest) (drop_all (suc (length xs - 1)) xs (omega arith)) ∙ append-nil (take (length xs - 1) xs)

-- the end at the place, of items and of the entries that they show
module _ (items : List Entry) (ascending : AreByName items) (entries : List answer.Entry) (shows : ShowsEntries items entries) where
  are : entries ≡ entries_of items
  are = entries_are items items entries (IsPermutation-refl items) ascending shows

  as_many : length entries ≡ length items
  as_many = ap length are ∙ length-map items entry_of

  end_shown : (i : ℕ) → end_text (option_map entry_of (slice_get items i)) ≡ end_text (slice_get entries i)
  end_shown i = ap end_text (sym (slice_get-map entry_of items i) ∙ ap (λ es. slice_get es i) (sym are))

  left_shown : (i : ℕ) → ShowsEntries (remove items i) (remove entries i)
  left_shown i =
      let left : entries_of (remove items i) ≡ remove entries i = remove-map entry_of items i ∙ ap (λ es. remove es i) (sym are) in
      record {
        same = subst (λ es. IsPermutation (entries_of (remove items i)) es) left (IsPermutation-refl (entries_of (remove items i)));
        ascending = ascends_remove name_of name_cmp entries i shows.ascending;
      }

module _ (kind : Kind) where
  with_ends : {A : Type 0} (endless ended : A) → kind ≡ Ord → by_ends kind endless ended ≡ ended
  with_ends endless ended e = ap (λ k. by_ends k endless ended) e

  without_ends : {A : Type 0} (endless ended : A) → kind ≡ Hash → by_ends kind endless ended ≡ endless
  without_ends endless ended e = ap (λ k. by_ends k endless ended) e

  -- a reply that is no refusal of memory
  pub plainly : (request : Request) (old new : List Entry) (reply : LineReply) → refusals_of reply ≡ 0 → ((entries : List answer.Entry) → ShowsEntries old entries → AnswersPlainly kind request entries (reply_text reply) new) → AnswersRequest kind request old reply new
  plainly request old new RefusedMemory none answers = absurd (omega (arith, none))
  plainly request old new reply none answers = answers

  module _ (items : List Entry) where
    module _ (new : List Entry) (stays : new ≡ items) (e : kind ≡ Hash) where
      stay_shown : (entries left : List answer.Entry) → ShowsEntries items entries → ShowsEntries new (by_ends kind entries left)
      stay_shown entries left shows = subst (ShowsEntries new) (sym (without_ends entries left e)) (subst (λ is. ShowsEntries is entries) (sym stays) shows)

      pub pop_first_unsupported : AnswersRequest kind PopFirst items Unsupported new
      pop_first_unsupported = λ entries shows. record { text = sym (without_ends _ _ e); after = stay_shown entries _ shows }

      pub pop_last_unsupported : AnswersRequest kind PopLast items Unsupported new
      pop_last_unsupported = λ entries shows. record { text = sym (without_ends _ _ e); after = stay_shown entries _ shows }

    module _ (ends : HasEnds kind items) (found : Option Entry) (reply : LineReply) (told : reply_text reply ≡ end_text (option_map entry_of found)) (none : refusals_of reply ≡ 0) where
      module _ (first : found ≡ slice_get items 0) where
        first_text : (entries : List answer.Entry) → ShowsEntries items entries → reply_text reply ≡ by_ends kind (codes "unsupported") (end_text (slice_get entries 0))
        first_text entries shows = told ∙ ap (λ o. end_text (option_map entry_of o)) first ∙ end_shown items ends.1 entries shows 0 ∙ sym (with_ends _ _ ends.0)

        pub first_answered : AnswersRequest kind First items reply items
        first_answered = plainly First items items reply none (λ entries shows. record { text = first_text entries shows; after = shows })

        pub pop_first_answered : (new : List Entry) → new ≡ drop 1 items → AnswersRequest kind PopFirst items reply new
        pop_first_answered new left = plainly PopFirst items new reply none (λ entries shows. record {
          text = first_text entries shows;
          after = subst (λ is. ShowsEntries is (by_ends kind entries (drop 1 entries))) (sym left) (subst (ShowsEntries (drop 1 items)) (sym (with_ends entries (drop 1 entries) ends.0)) (left_shown items ends.1 entries shows 0));
        })

      module _ (last : found ≡ slice_get items (length items - 1)) where
        last_text : (entries : List answer.Entry) → ShowsEntries items entries → reply_text reply ≡ by_ends kind (codes "unsupported") (end_text (slice_get entries (length entries - 1)))
        last_text entries shows =
            told ∙ ap (λ o. end_text (option_map entry_of o)) last ∙ end_shown items ends.1 entries shows (length items - 1)
            ∙ ap (λ n. end_text (slice_get entries (n - 1))) (sym (as_many items ends.1 entries shows)) ∙ sym (with_ends _ _ ends.0)

        pub last_answered : AnswersRequest kind Last items reply items
        last_answered = plainly Last items items reply none (λ entries shows. record { text = last_text entries shows; after = shows })

        pub pop_last_answered : (new : List Entry) → new ≡ take (length items - 1) items → AnswersRequest kind PopLast items reply new
        pop_last_answered new left = plainly PopLast items new reply none (λ entries shows.
            let same : remove entries (length items - 1) ≡ take (length entries - 1) entries = ap (λ n. remove entries (n - 1)) (sym (as_many items ends.1 entries shows)) ∙ remove_last entries in
            record {
              text = last_text entries shows;
              after = subst (λ is. ShowsEntries is (by_ends kind entries (take (length entries - 1) entries))) (remove_last items ∙ sym left)
                  (subst (ShowsEntries (remove items (length items - 1))) (same ∙ sym (with_ends entries (take (length entries - 1) entries) ends.0)) (left_shown items ends.1 entries shows (length items - 1)));
            })

-- the items were written, in the order of their names
pub lists_items : (items sorted : List Entry) (before after : String Global) → IsPermutation items sorted → AreByName sorted → AppendsList sorted before after → ListsItems items before after
lists_items items sorted before after same ascending written = record {
  listed = codes "list " ++ decimal (length sorted) ++ list_text (entries_of sorted);
  written = written;
  shows = λ entries shows.
      let entries_is = entries_are items sorted entries same ascending shows in
      ap (λ n. codes "list " ++ decimal n ++ list_text (entries_of sorted)) (sym (ap length entries_is ∙ length-map sorted entry_of))
      ∙ ap (λ es. codes "list " ++ decimal (length entries) ++ list_text es) (sym entries_is);
}
