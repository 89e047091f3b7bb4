-- The reply to the line of many pairs.
--     after_pairs      pairs before others, which may be none
--     all_answered      all are in
--     conflict_told, full_told      the first ones are in, and the next one's name is there, or it finds no room
--     no_room_told      none is in
--     bad_told, making_told      the fields do not follow the form, or an entry could not be made
--     all_sent, conflict_sent, refused_sent      the same, of what a map of entries tells
use Rattle.std.proofs.Common.{rules, ◌≡◌, ℕ, suc, ◌+◌, ◌<◌, ◌≤◌, Bool, true, false, cond, eqb, is_some, List, [], ◌∷◌, ◌++◌, length, take, drop, Option, Some, None, Bor, IsPermutation, refl, sym, ap, ap₂, ◌∙◌, subst, arith, append-nil, append_assoc, eq-eqb}
use Rattle.std.specs.Global.{Global}
use Rattle.std.specs.Prelude.{IfNone, IfSome, ◌-◌, String, nat_lt, string_bytes, codes, decimal}
use Rattle.std.specs.String.{string_eq, string_eq_equiv}
use Rattle.std.specs.Option.{option_map_or}
use Rattle.std.proofs.Math.Seq.{drop-append_seam, take-append_seam, take-length}
use Rattle.std.proofs.lemmas.Bool.{eqb-true}
use Rattle.std.proofs.lemmas.List.{drop_all, length-append, length-map, length-take-le, map-append}
use Rattle.std.proofs.lemmas.Option.{slice_get_within}
use Rattle.std.proofs.lemmas.List.Splits.{length-slice_split}
use Rattle.std.proofs.lemmas.List.Sorted.{IsPermutation-append_left, IsPermutation-sym, IsPermutation-to_front, IsPermutation-trans}
use Rattle.iddqd.specs.Collecting.{room_to_reserve}
use Rattle.iddqd.specs.Contents.{find_item, items_with}
use Rattle.iddqd.specs.Errors.{duplicates_of, new_item_of}
use Rattle.iddqd.specs.Holding.{max_items}
use Rattle.iddqd.specs.Refusal.{FindsNoRoom, IsOnly, RefusalKind, refusal_kind, reservation_kind}
use Rattle.iddqd.proofs.OrderLemmas.{differ_moved, find_moved}
use Rattle.iddqd_run.specs.Answer as answer
use Rattle.iddqd_run.specs.Answer.{added_text, entries_with_all, entry_named, how_many_added, how_many_fit, is_full, lacks_room, name_cmp, name_of}
use Rattle.iddqd.specs.declared.errors.ExtendUniqueError.TheVariants.{Duplicate, Refused}
use Rattle.idtable_commands.specs.KeyedMap.{StopsExtension}
use Rattle.idtable_lines.specs.Lines.{AddAll, is_name, onto_pairs, paired_request, pairs_of, value_of, words_of}
use Rattle.iddqd_run.specs.Shown.{AnswersPlainly, AnswersRequest, LeavesRefused, ShowsEntries, entries_of, entry_of, no_room_reply, no_space_reply, reply_text}
use Rattle.idtable_commands.specs.Step.{FindsFull, FitsLikely, MapState, RefusesRoom, StopsAt, InsertsAll}
use Rattle.idtable_lines.specs.declared.arguments.Kind.{Kind}
use Rattle.iddqd_run.specs.declared.entries.Entry.{Entry}
use Rattle.iddqd_run.specs.declared.entries.LineReply.TheVariants.{AddedAll, Bad, DuplicateAfter, RefusedCapacity, RefusedMemory}
use Rattle.iddqd_run.specs.declared.entries.LineReply.{LineReply}
use Rattle.idtable_commands.proofs.ExtendLemmas.{absent_before, as_many, counted, cut_at}
use Rattle.iddqd_run.proofs.ShownLemmas.{absent_shown, asks_room, by_name, has_room, length_shown, moved_shown, placed_shown, there_shown}

abbrev pub after_pairs : List (List ℕ × ℕ) → Option (List (List ℕ × ℕ)) → Option (List (List ℕ × ℕ))
after_pairs front None = None
after_pairs front (Some pairs) = Some (front ++ pairs)

-- more items are inserted after x is
next_taken : (x : Entry) (xs items new : List Entry) → InsertsAll by_name string_eq max_items (x ∷ xs) items new → InsertsAll by_name string_eq max_items xs (x ∷ items) new
next_taken x xs items new takes =
    let front : IsPermutation ((items ++ x ∷ []) ++ xs) ((x ∷ items) ++ xs) = IsPermutation-append_left xs (items ++ x ∷ []) (x ∷ items) (IsPermutation-to_front items x) in
    let moved : IsPermutation (items ++ x ∷ xs) ((x ∷ items) ++ xs) = subst (λ l. IsPermutation l ((x ∷ items) ++ xs)) (append_assoc items (x ∷ []) xs) front in
    record {
      added = record {
        differ = differ_moved by_name string_eq_equiv (items ++ x ∷ xs) ((x ∷ items) ++ xs) moved takes.added.differ;
        same = IsPermutation-trans ((x ∷ items) ++ xs) (items ++ x ∷ xs) new (IsPermutation-sym (items ++ x ∷ xs) ((x ∷ items) ++ xs) moved) takes.added.same;
      };
      room = λ _. takes.room (omega arith);
    }

-- the entries once items were inserted, and how many of them and of others fit
record IsThrough (xs items new : List Entry) (entries : List answer.Entry) : Type 0 where
  shows : ShowsEntries new (entries_with_all (entries_of xs) entries)
  fits : (more : List answer.Entry) → how_many_fit (entries_of xs ++ more) entries ≡ length xs + how_many_fit more (entries_with_all (entries_of xs) entries)

module _ (kind : Kind) where
  through : (xs items new : List Entry) → InsertsAll by_name string_eq max_items xs items new → (entries : List answer.Entry) → ShowsEntries items entries → IsThrough xs items new entries
  through [] items new takes entries shows = record {
    shows = moved_shown kind items new (subst (λ l. IsPermutation l new) (append-nil items) takes.added.same) entries shows;
    fits = λ more. omega arith;
  }
  through (x ∷ xs) items new takes entries shows =
      let absent : find_item by_name (string_eq x.name) items ≡ None = absent_before by_name string_eq_equiv items xs x takes.added.differ in
      let few : length items < max_items = omega (arith, takes.room (omega arith), as_many by_name string_eq_equiv (x ∷ xs) items new takes.added) in
      let next = items_with name_of name_cmp (entry_of x) entries in
      let shown_next : ShowsEntries (x ∷ items) next = placed_shown kind x items (string_bytes x.name) refl (x ∷ items) absent entries shows (record { place = 0; within = omega arith; put = refl }) in
      let rest = through xs (x ∷ items) new (next_taken x xs items new takes) next shown_next in
      record {
        shows = rest.shows;
        fits = λ more.
            let step : how_many_fit (entry_of x ∷ (entries_of xs ++ more)) entries ≡ suc (how_many_fit (entries_of xs ++ more) next)
            = asks_room kind x items (string_bytes x.name) refl (x ∷ items) absent entries shows (λ _. 0) 0 (suc (how_many_fit (entries_of xs ++ more) next)) false (has_room kind x items (string_bytes x.name) refl (x ∷ items) absent entries shows few) in
            omega (arith, step, rest.fits more);
      }

  likely_room : (xs items : List Entry) (entries : List answer.Entry) → ShowsEntries items entries → length items + room_to_reserve (length items) (length xs) ≤ max_items → lacks_room (entries_of xs) entries ≡ false
  likely_room xs items entries shows fits =
      let below : nat_lt max_items (length items + room_to_reserve (length items) (length xs)) ≡ false = search (rules, fits) in
      ap₂ (λ m n. nat_lt max_items (m + room_to_reserve m n)) (length_shown items entries shows) (length-map xs entry_of) ∙ below

  -- all are in
  pub all_answered : (xs items new : List Entry) → FitsLikely by_name string_eq max_items xs items → InsertsAll by_name string_eq max_items xs items new → (count : ℕ) → count ≡ length xs → AnswersRequest kind (AddAll (entries_of xs)) items (AddedAll count) new
  all_answered xs items new fits takes count e = λ entries shows.
      let ps = entries_of xs in
      let thr = through xs items new takes entries shows in
      let room = likely_room xs items entries shows fits in
      let long : length ps ≡ length xs = length-map xs entry_of in
      let fit : how_many_fit ps entries ≡ length ps = (let all = thr.fits [] in let whole = ap (λ es. how_many_fit es entries) (append-nil ps) in omega (arith, all, whole, long)) in
      let told : (n : ℕ) → List ℕ = λ n. added_text n (drop n ps) (entries_with_all (take n ps) entries) in
      let left : drop (length ps) ps ≡ [] = drop_all (length ps) ps (omega arith) in
      record {
        text = ap (λ n. codes "added " ++ decimal n) (e ∙ sym long) ∙ sym (ap (λ b. cond b (codes "refused capacity") (told (how_many_fit ps entries))) room ∙ ap told fit ∙ ap (λ ds. added_text (length ps) ds (entries_with_all (take (length ps) ps) entries)) left);
        after = subst (λ es. ShowsEntries new (entries_with_all es entries)) (sym (ap (λ b. take (cond b 0 (how_many_fit ps entries)) ps) room ∙ ap (λ n. take n ps) fit ∙ take-length ps)) thr.shows;
      }

  -- the first ones are in, and x comes next
  module _ (front rest : List Entry) (x : Entry) (items new : List Entry) (takes : InsertsAll by_name string_eq max_items front items new) (entries : List answer.Entry) (shows : ShowsEntries items entries) (fits : length items + room_to_reserve (length items) (length (front ++ x ∷ rest)) ≤ max_items) where
    abbrev given : List answer.Entry
    given = entries_of (front ++ x ∷ rest)

    abbrev end : List answer.Entry
    end = entries_with_all (entries_of front) entries

    thr : IsThrough front items new entries
    thr = through front items new takes entries shows

    room : lacks_room given entries ≡ false
    room = likely_room (front ++ x ∷ rest) items entries shows fits

    split : given ≡ entries_of front ++ entry_of x ∷ entries_of rest
    split = map-append entry_of front (x ∷ rest)

    long : length (entries_of front) ≡ length front
    long = length-map front entry_of

    fit : how_many_fit given entries ≡ length front + how_many_fit (entry_of x ∷ entries_of rest) end
    fit = ap (λ es. how_many_fit es entries) split ∙ thr.fits (entry_of x ∷ entries_of rest)

    taken : take (length front) given ≡ entries_of front
    taken = ap (λ n. take n given) (sym long) ∙ ap (take (length (entries_of front))) split ∙ take-append_seam (entries_of front) (entry_of x ∷ entries_of rest)

    dropped : drop (length front) given ≡ entry_of x ∷ entries_of rest
    dropped = ap (λ n. drop n given) (sym long) ∙ ap (drop (length (entries_of front))) split ∙ drop-append_seam (entries_of front) (entry_of x ∷ entries_of rest)

    stuck_plainly : (reply : List ℕ) → how_many_fit (entry_of x ∷ entries_of rest) end ≡ 0 → reply ≡ added_text (length front) (entry_of x ∷ entries_of rest) end → AnswersPlainly kind (AddAll given) entries reply new
    stuck_plainly reply stuck is =
        let count : how_many_fit given entries ≡ length front = omega (arith, fit, stuck) in
        let told : (n : ℕ) → List ℕ = λ n. added_text n (drop n given) (entries_with_all (take n given) entries) in
        record {
          text = is ∙ sym (ap (λ b. cond b (codes "refused capacity") (told (how_many_fit given entries))) room ∙ ap told count ∙ ap₂ (λ ds ts. added_text (length front) ds (entries_with_all ts entries)) dropped taken);
          after = subst (λ es. ShowsEntries new (entries_with_all es entries)) (sym (ap (λ b. take (cond b 0 (how_many_fit given entries)) given) room ∙ ap (λ n. take n given) count ∙ taken)) thr.shows;
        }

    refused_here : LeavesRefused kind (AddAll given) entries new
    refused_here = record {
      left = end;
      by_request = (
        length front,
        (let all = ap length split ∙ length-append (entries_of front) (entry_of x ∷ entries_of rest) in omega (arith, all, long)),
        (let added : how_many_added given entries ≡ how_many_fit given entries = ap (λ b. cond b 0 (how_many_fit given entries)) room in omega (arith, added, fit)),
        sym (ap (λ es. entries_with_all es entries) taken),
      );
      after = thr.shows;
    }

    conflict_here : (y : Entry) → find_item by_name (string_eq x.name) new ≡ Some y → (told : Bor (List ℕ)) (value count : ℕ) → told.now ≡ string_bytes x.name → value ≡ y.value → count ≡ length front → AnswersPlainly kind (AddAll given) entries (reply_text (DuplicateAfter told value count)) new
    conflict_here y found told value count e f h =
        let there : entry_named (string_bytes x.name) end ≡ Some (entry_of y) = there_shown (string_bytes x.name) new end thr.shows y found in
        let on_old : answer.Entry → List ℕ = λ old. codes "duplicate " ++ string_bytes x.name ++ codes " " ++ decimal old.1 ++ codes " after " ++ decimal (length front) in
        stuck_plainly (reply_text (DuplicateAfter told value count)) (rw there refl)
        (ap (λ n. codes "duplicate " ++ n ++ codes " " ++ decimal value ++ codes " after " ++ decimal count) e
        ∙ ap (λ v. codes "duplicate " ++ string_bytes x.name ++ codes " " ++ decimal v ++ codes " after " ++ decimal count) f
        ∙ ap (λ n. codes "duplicate " ++ string_bytes x.name ++ codes " " ++ decimal y.value ++ codes " after " ++ decimal n) h
        ∙ sym (ap (λ o. option_map_or on_old o (codes "refused capacity")) there))

    full_here : find_item by_name (string_eq x.name) new ≡ None → length new ≡ max_items → AnswersPlainly kind (AddAll given) entries (reply_text RefusedCapacity) new
    full_here absent full =
        let none : entry_named (string_bytes x.name) end ≡ None = absent_shown (string_bytes x.name) new end thr.shows absent in
        let at_limit : is_full end ≡ true = eq-eqb (length end) max_items (length_shown new end thr.shows ∙ full) in
        stuck_plainly (reply_text RefusedCapacity)
        (rw none (rw at_limit refl))
        (rw none refl)

  module _ (xs items : List Entry) (x : Entry) (after : ℕ) (new : List Entry) (fits : FitsLikely by_name string_eq max_items xs items) (stops : StopsAt by_name string_eq max_items xs x after items new) where
    cut : (rest : List Entry) × (xs ≡ take after xs ++ x ∷ rest)
    cut = let at = cut_at xs after (length xs) x stops.next (slice_get_within xs after x stops.next) in (at.0, sym (take-length xs) ∙ at.1)

    fits_cut : length items + room_to_reserve (length items) (length (take after xs ++ x ∷ cut.0)) ≤ max_items
    fits_cut = subst (λ zs. length items + room_to_reserve (length items) (length zs) ≤ max_items) cut.1 fits

    so_many : length (take after xs) ≡ after
    so_many = length-take-le after xs (let within = slice_get_within xs after x stops.next in omega (arith, within))

    -- an existing item has the key of x
    pub conflict_told : (y : Entry) → find_item by_name (string_eq x.name) (items ++ take after xs) ≡ Some y → (told : Bor (List ℕ)) (value count : ℕ) → told.now ≡ string_bytes x.name → value ≡ y.value → count ≡ after → AnswersRequest kind (AddAll (entries_of xs)) items (DuplicateAfter told value count) new
    conflict_told y found told value count e f h =
        let adds = stops.taken.added in
        let there : find_item by_name (string_eq x.name) new ≡ Some y = find_moved by_name string_eq_equiv (string_eq x.name) (string_eq_equiv.congr x.name) (items ++ take after xs) new adds.same adds.differ ∙ found in
        subst (λ zs. AnswersRequest kind (AddAll (entries_of zs)) items (DuplicateAfter told value count) new) (sym cut.1)
        (λ entries shows. conflict_here (take after xs) cut.0 x items new stops.taken entries shows fits_cut y there told value count e f (h ∙ sym so_many))

    -- x finds no room
    pub full_told : (error : RefusalKind) → FindsNoRoom by_name string_eq max_items new x error → (reply : LineReply) → (error ≡ refusal_kind max_items new → reply ≡ no_room_reply new) → AnswersRequest kind (AddAll (entries_of xs)) items reply new
    full_told error none reply told =
        subst (λ r. AnswersRequest kind (AddAll (entries_of xs)) items r new) (sym (told none.1))
        (subst (λ zs. AnswersRequest kind (AddAll (entries_of zs)) items (no_room_reply new) new) (sym cut.1) (by (eqb (length new) max_items) refl))
      where
        by : (b : Bool) → eqb (length new) max_items ≡ b → AnswersRequest kind (AddAll (entries_of (take after xs ++ x ∷ cut.0))) items (cond b RefusedCapacity RefusedMemory) new
        by true e = λ entries shows. full_here (take after xs) cut.0 x items new stops.taken entries shows fits_cut none.0 (eqb-true (length new) max_items e)
        by false e = λ entries shows. refused_here (take after xs) cut.0 x items new stops.taken entries shows fits_cut

  -- room for as many as are likely new was refused
  pub no_room_told : (xs : List Entry) (old : MapState Entry) (new : List Entry) (error : RefusalKind) → RefusesRoom max_items (room_to_reserve (length old.items) (length xs)) old error → new ≡ old.items → (reply : LineReply) → (error ≡ reservation_kind max_items (length old.items + room_to_reserve (length old.items) (length xs)) → reply ≡ no_space_reply (length old.items + room_to_reserve (length old.items) (length xs))) → AnswersRequest kind (AddAll (entries_of xs)) old.items reply new
  no_room_told xs old new error refuses same reply told =
      let wanted = length old.items + room_to_reserve (length old.items) (length xs) in
      subst (λ r. AnswersRequest kind (AddAll (entries_of xs)) old.items r new) (sym (told refuses.0)) (by (nat_lt max_items wanted) refl)
    where
      same_room : (entries : List answer.Entry) → ShowsEntries old.items entries → lacks_room (entries_of xs) entries ≡ nat_lt max_items (length old.items + room_to_reserve (length old.items) (length xs))
      same_room entries shows = ap₂ (λ m n. nat_lt max_items (m + room_to_reserve m n)) (length_shown old.items entries shows) (length-map xs entry_of)

      some : (zs : List Entry) → old.spare < room_to_reserve (length old.items) (length zs) → 0 < length zs
      some [] below = absurd (none (eqb (length old.items) 0) below)
        where
          none : (b : Bool) → old.spare < cond b 0 0 → ⊥
          none true lt = omega (arith, lt)
          none false lt = omega (arith, lt)
      some (z ∷ zs) below = omega arith

      by : (b : Bool) → nat_lt max_items (length old.items + room_to_reserve (length old.items) (length xs)) ≡ b → AnswersRequest kind (AddAll (entries_of xs)) old.items (cond b RefusedCapacity RefusedMemory) new
      by true e = λ entries shows.
          let lacks : lacks_room (entries_of xs) entries ≡ true = same_room entries shows ∙ e in
          record { text = rw lacks refl; after = rw lacks (subst (λ is. ShowsEntries is entries) (sym same) shows) }
      by false e = λ entries shows. record {
        left = entries;
        by_request = (0, (let many = some xs refuses.1 in let long = length-map xs entry_of in omega (arith, many, long)), omega arith, refl);
        after = subst (λ is. ShowsEntries is entries) (sym same) shows;
      }

  -- an entry could not be made
  not_made_told : (pairs : List answer.Entry) (items : List Entry) → 0 < length pairs → AnswersRequest kind (AddAll pairs) items RefusedMemory items
  not_made_told pairs items many = λ entries shows. record { left = entries; by_request = (0, many, omega arith, refl); after = shows }

  -- the same, of what a map of entries tells
  module _ (key : Entry → String Global) (names : key ≡ by_name) (limit : ℕ) (most : limit ≡ max_items) (xs : List Entry) (old : MapState Entry) (new : List Entry) where
    here : (P : (Entry → String Global) → ℕ → Type 0) → P key limit → P by_name max_items
    here P p = subst (P by_name) most (subst (λ k. P k limit) names p)

    pub all_sent : FitsLikely key string_eq limit xs old.items → InsertsAll key string_eq limit xs old.items new → (count : ℕ) → count ≡ length xs → AnswersRequest kind (AddAll (entries_of xs)) old.items (AddedAll count) new
    all_sent fits takes count e =
        all_answered xs old.items new (here (λ k n. FitsLikely k string_eq n xs old.items) fits) (here (λ k n. InsertsAll k string_eq n xs old.items new) takes) count e

    pub conflict_sent : (d : _) → StopsExtension key string_eq limit xs old new (Duplicate d) → (before now : ℕ) → before ≡ length old.items → now ≡ length new → (told : Bor (List ℕ)) (value : ℕ) → told.now ≡ string_bytes (new_item_of d).name → ((y : Entry) → IsOnly (duplicates_of d) y → value ≡ y.value)
        → AnswersRequest kind (AddAll (entries_of xs)) old.items (DuplicateAfter told value (now - before)) new
    conflict_sent d stopped before now b n told value e shows_value =
        let (y, lent, fits, after, meets) = here (λ k m. StopsExtension k string_eq m xs old new (Duplicate d)) stopped in
        let many = counted by_name string_eq_equiv max_items xs old new before now b n (new_item_of d) after meets.stops in
        conflict_told xs old.items (new_item_of d) after new fits meets.stops y meets.first.akin told value (now - before) e (shows_value y lent) many.1

    pub refused_sent : (e : _) → StopsExtension key string_eq limit xs old new (Refused e) → (reply : LineReply) → ((items : List Entry) → e.error ≡ refusal_kind max_items items → reply ≡ no_room_reply items) → ((wanted : ℕ) → e.error ≡ reservation_kind max_items wanted → reply ≡ no_space_reply wanted)
        → AnswersRequest kind (AddAll (entries_of xs)) old.items reply new
    refused_sent e stopped reply full space = (let told = here (λ k m. StopsExtension k string_eq m xs old new (Refused e)) stopped in by e.item told.0 told.1)
      where
        by : (item : Option Entry) → IfSome item (λ x. FitsLikely by_name string_eq max_items xs old.items × (after : ℕ) × FindsFull by_name string_eq max_items xs x e.error after old new) → IfNone item (RefusesRoom max_items (room_to_reserve (length old.items) (length xs)) old e.error × (new ≡ old.items)) → AnswersRequest kind (AddAll (entries_of xs)) old.items reply new
        by (Some x) some none = full_told xs old.items x some.1 new some.0 some.2.stops e.error some.2.refused reply (full new)
        by None some none = no_room_told xs old new e.error none.0 none.1 reply (space (length old.items + room_to_reserve (length old.items) (length xs)))

-- fields that follow the form are one pair at least
some_pair : (fields : List ℕ) (pairs : List answer.Entry) → pairs_of (words_of fields) ≡ Some pairs → 0 < length pairs
some_pair fields pairs e = by (words_of fields) refl e
  where
    more : (b : Bool) (name : List ℕ) (value : Option ℕ) (behind : Option (List answer.Entry)) → cond b (onto_pairs name value behind) None ≡ Some pairs → 0 < length pairs
    more false name value behind e = cc
    more true name None behind e = cc
    more true name (Some value) None e = cc
    more true name (Some value) (Some rest) e = (let same : (name, value) ∷ rest ≡ pairs = cc in let long = ap length same in omega (arith, long))

    by : (ws : List (List ℕ)) → words_of fields ≡ ws → pairs_of ws ≡ Some pairs → 0 < length pairs
    by [] f e = absurd (omega (arith, length-slice_split (λ b. eqb b 32) fields, ap length f))
    by (name ∷ []) f e = cc
    by (name ∷ value ∷ ws) f e = more (is_name name) name (value_of value) (pairs_of ws) e

module _ (kind : Kind) (items : List Entry) where
  -- fields that do not follow the form
  pub bad_told : (pairs : Option (List answer.Entry)) → None ≡ pairs → AnswersRequest kind (paired_request pairs) items Bad items
  bad_told pairs e = subst (λ ps. AnswersRequest kind (paired_request ps) items Bad items) e (λ entries shows. record { text = refl; after = shows })

  -- an entry of fields could not be made
  pub making_told : (fields : List ℕ) (reply : LineReply) → reply ≡ cond (is_some (pairs_of (words_of fields))) RefusedMemory Bad → AnswersRequest kind (paired_request (pairs_of (words_of fields))) items reply items
  making_told fields reply is = subst (λ r. AnswersRequest kind (paired_request (pairs_of (words_of fields))) items r items) (sym is) (by (pairs_of (words_of fields)) refl)
    where
      by : (pairs : Option (List answer.Entry)) → pairs_of (words_of fields) ≡ pairs → AnswersRequest kind (paired_request pairs) items (cond (is_some pairs) RefusedMemory Bad) items
      by None e = bad_told None refl
      by (Some pairs) e = not_made_told kind pairs items (some_pair fields pairs e)
