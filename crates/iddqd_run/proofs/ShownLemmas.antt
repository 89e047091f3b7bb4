-- The replies of a map are those of the entries that its items are seen as, in the order of their names.
use Rattle.std.proofs.Common.{rules, ◌≡◌, ℕ, ◌+◌, ◌<◌, ◌≤◌, [], Bor, Bool, true, false, cond, eqb, List, length, Option, Some, None, IsPermutation, sym, refl, ap, ◌∙◌, subst, ◌++◌, eq-eqb, arith, ap₂}
use Rattle.std.specs.Prelude.{filter, nat_lt, ◌-◌, string_bytes, bytes_eq, codes, decimal}
use Rattle.std.specs.Cmp.Lexicographic.{bytes_decides, nat_list_cmp_total, nat_list_eq_equiv, texts_ties}
use Rattle.std.specs.Option.{option_map, option_map_or}
use Rattle.std.proofs.lemmas.Bool.{ne_eqb, eqb-true}
use Rattle.std.proofs.lemmas.List.{length-map}
use Rattle.std.proofs.lemmas.List.Sorted.{length_permutation, IsPermutation-map, IsPermutation-refl, IsPermutation-sym, IsPermutation-trans}
use Rattle.std.specs.List.Sorted.{IsStrictlySortedBy}
use Rattle.std.proofs.Common.{String, Global}
use Rattle.iddqd_run.specs.Answer as answer
use Rattle.iddqd_run.specs.Answer.{greater, name_of, name_cmp, entry_named, is_full, line_reply, entries_after, RefusedLeaves}
use Rattle.iddqd.specs.Contents.{AddsItem, find_item, items_without, items_overwritten, items_with}
use Rattle.idtable_lines.specs.Lines.{Request, Add, Put, Get, Del, Set, Keep, Reserve, Shrink, Len}
use Rattle.iddqd_run.specs.Shown.{entry_of, entries_of, reply_text, AnswersPlainly, AnswersRequest, ShowsEntries, no_room_reply, no_space_reply}
use Rattle.iddqd.specs.Holding.{max_items}
use Rattle.idtable_lines.specs.declared.arguments.Kind.{Kind}
use Rattle.iddqd_run.specs.declared.entries.Entry.{Entry}
use Rattle.iddqd_run.specs.declared.entries.LineReply.{LineReply}
use Rattle.iddqd_run.specs.declared.entries.LineReply.TheVariants.{Added, Duplicate, New, Replaced, Found, Removed, Absent, Set as Written, Kept, Length, Done, RefusedCapacity, RefusedMemory}
use Rattle.iddqd.proofs.KeepsLemmas.{ascends_filter}
use Rattle.iddqd.proofs.MappedLemmas.{filter-map, find_item-map, insert-map, without-map, replaced-map}
use Rattle.iddqd.proofs.OrderLemmas.{Tells, find_tells}
use Rattle.iddqd.proofs.PermutationLemmas.{filter_permutation}
use Rattle.iddqd_run.proofs.NameOrderLemmas.{AreInOrder, found_in_order, placed_in_order, replaced_in_order, without_in_order}

abbrev pub by_name : Entry → String Global
by_name entry = entry.name

abbrev InOrder : List answer.Entry → List answer.Entry → Type 0
InOrder = AreInOrder name_of nat_list_eq_equiv nat_list_cmp_total texts_ties

order : (items : List Entry) (entries : List answer.Entry) → ShowsEntries items entries → InOrder (entries_of items) entries
order items entries shows = record { same = shows.same; ascending = shows.ascending }

shown_by : (items : List Entry) (entries : List answer.Entry) → InOrder (entries_of items) entries → ShowsEntries items entries
shown_by items entries are = record { same = are.same; ascending = are.ascending }

-- no items show no entries
pub nothing_shown : (items : List Entry) → items ≡ [] → ShowsEntries items []
unfolding IsStrictlySortedBy
nothing_shown items none = record { same = subst (λ is. IsPermutation (entries_of is) []) (sym none) (IsPermutation-refl []); ascending = tt }

pub length_shown : (items : List Entry) (entries : List answer.Entry) → ShowsEntries items entries → length entries ≡ length items
length_shown items entries shows = length_permutation (entries_of items) entries shows.same ∙ length-map items entry_of

-- a search by name finds the same entry
module _ (name : List ℕ) (items : List Entry) (entries : List answer.Entry) (shows : ShowsEntries items entries) where
  abbrev found : Option Entry
  found = find_item by_name (λ k. bytes_eq name (string_bytes k)) items

  found_shown : entry_named name entries ≡ option_map entry_of found
  found_shown =
      sym (found_in_order name_of nat_list_eq_equiv nat_list_cmp_total texts_ties (bytes_eq name) (nat_list_eq_equiv.congr name) (entries_of items) entries (order items entries shows))
      ∙ find_item-map entry_of name_of (bytes_eq name) items

  pub absent_shown : found ≡ None → entry_named name entries ≡ None
  absent_shown e = found_shown ∙ ap (option_map entry_of) e

  pub there_shown : (y : Entry) → found ≡ Some y → entry_named name entries ≡ Some (entry_of y)
  there_shown y e = found_shown ∙ ap (option_map entry_of) e

  without_shown : (new : List Entry) → new ≡ items_without by_name (λ k. bytes_eq name (string_bytes k)) items → ShowsEntries new (items_without name_of (bytes_eq name) entries)
  without_shown new e =
      shown_by new (items_without name_of (bytes_eq name) entries)
      (subst (λ es. InOrder es (items_without name_of (bytes_eq name) entries)) (sym (ap entries_of e ∙ without-map entry_of name_of (bytes_eq name) items))
      (without_in_order name_of nat_list_eq_equiv nat_list_cmp_total texts_ties (bytes_eq name) (entries_of items) entries (order items entries shows)))

module _ (kind : Kind) where
  -- what a line leaves that was refused memory, and leaves what was there
  pub refused_answered : (request : Request) (items new : List Entry) → ((entries : List answer.Entry) → RefusedLeaves kind request entries entries) → new ≡ items → AnswersRequest kind request items RefusedMemory new
  refused_answered request items new leaves stays = λ entries shows. record { left = entries; by_request = leaves entries; after = subst (λ is. ShowsEntries is entries) (sym stays) shows }

  -- the reply to a line whose new entry finds no room, and which leaves what was there
  pub no_room_answered : (request : Request) (items new : List Entry) (reply : LineReply) → ((entries : List answer.Entry) → RefusedLeaves kind request entries entries) → (length items ≡ max_items → AnswersRequest kind request items RefusedCapacity new) → new ≡ items → reply ≡ no_room_reply items → AnswersRequest kind request items reply new
  no_room_answered request items new reply leaves full stays is = subst (λ r. AnswersRequest kind request items r new) (sym is) (by (eqb (length items) max_items) refl)
    where
      by : (b : Bool) → eqb (length items) max_items ≡ b → AnswersRequest kind request items (cond b RefusedCapacity RefusedMemory) new
      by true e = full (eqb-true (length items) max_items e)
      by false e = refused_answered request items new leaves stays

  -- the reply to `reserve` if there is room, and if there is none
  pub reserved_answered : (items new : List Entry) (n : ℕ) → length items + n ≤ max_items → new ≡ items → AnswersRequest kind (Reserve n) items Done new
  reserved_answered items new n fits stays = λ entries shows.
      let within : length entries + n ≤ max_items = omega (arith, fits, length_shown items entries shows) in
      let below : nat_lt max_items (length entries + n) ≡ false = search (rules, within) in
      record { text = rw below refl; after = subst (λ is. ShowsEntries is entries) (sym stays) shows }

  pub no_space_answered : (items new : List Entry) (n : ℕ) (reply : LineReply) → new ≡ items → reply ≡ no_space_reply (length items + n) → AnswersRequest kind (Reserve n) items reply new
  no_space_answered items new n reply stays is = subst (λ r. AnswersRequest kind (Reserve n) items r new) (sym is) (by (nat_lt max_items (length items + n)) refl)
    where
      by : (b : Bool) → nat_lt max_items (length items + n) ≡ b → AnswersRequest kind (Reserve n) items (cond b RefusedCapacity RefusedMemory) new
      by true e = λ entries shows. record {
        text = rw (ap (λ m. nat_lt max_items (m + n)) (length_shown items entries shows) ∙ e) refl;
        after = subst (λ is. ShowsEntries is entries) (sym stays) shows;
      }
      by false e = λ entries shows. record {
        left = entries;
        by_request = (let within : length items + n ≤ max_items = search (rules, e) in omega (arith, within, length_shown items entries shows), refl);
        after = subst (λ is. ShowsEntries is entries) (sym stays) shows;
      }

  -- what `shrink` leaves: the entries of the same items in whatever order
  module _ (items new : List Entry) (same : IsPermutation items new) where
    pub moved_shown : (entries : List answer.Entry) → ShowsEntries items entries → ShowsEntries new entries
    moved_shown entries shows = record {
      same = IsPermutation-trans (entries_of new) (entries_of items) entries (IsPermutation-sym (entries_of items) (entries_of new) (IsPermutation-map entry_of items new same)) shows.same;
      ascending = shows.ascending;
    }

    pub shrunk_answered : AnswersRequest kind Shrink items Done new
    shrunk_answered = λ entries shows. record { text = refl; after = moved_shown entries shows }

    pub not_shrunk_answered : AnswersRequest kind Shrink items RefusedMemory new
    not_shrunk_answered = λ entries shows. record { left = entries; by_request = refl; after = moved_shown entries shows }

  -- the reply to `len`
  pub len_answered : (items : List Entry) (n : ℕ) → n ≡ length items → AnswersRequest kind Len items (Length n) items
  len_answered items n e = λ entries shows. record { text = ap decimal (e ∙ sym (length_shown items entries shows)); after = shows }

  module _ (name : List ℕ) (items : List Entry) where
    abbrev named : Option Entry
    named = find_item by_name (λ k. bytes_eq name (string_bytes k)) items

    -- the reply to `get`
    pub get_found : (y : Entry) → Some y ≡ named → AnswersRequest kind (Get name) items (Found y.value) items
    get_found y e = λ entries shows. record { text = rw (there_shown name items entries shows y (sym e)) refl; after = shows }

    pub get_absent : None ≡ named → AnswersRequest kind (Get name) items Absent items
    get_absent e = λ entries shows. record { text = rw (absent_shown name items entries shows (sym e)) refl; after = shows }

    -- the reply to `del`
    module _ (new : List Entry) (taken : new ≡ items_without by_name (λ k. bytes_eq name (string_bytes k)) items) where
      pub delete_found : (y : Entry) → Some y ≡ named → AnswersRequest kind (Del name) items (Removed y.value) new
      delete_found y e = λ entries shows. record { text = rw (there_shown name items entries shows y (sym e)) refl; after = without_shown name items entries shows new taken }

      pub delete_absent : None ≡ named → AnswersRequest kind (Del name) items Absent new
      delete_absent e = λ entries shows. record { text = rw (absent_shown name items entries shows (sym e)) refl; after = without_shown name items entries shows new taken }

  -- the reply to `keep`
  module _ (value : ℕ) (items new : List Entry) (kept : new ≡ filter (λ entry. nat_lt value entry.value) items) (entries : List answer.Entry) (shows : ShowsEntries items entries) where
    kept_shown : ShowsEntries new (greater value entries)
    kept_shown =
        shown_by new (greater value entries)
        (subst (λ es. InOrder es (greater value entries)) (filter-map entry_of name_of (λ entry. nat_lt value entry.1) items ∙ sym (ap entries_of kept)) (record {
          same = filter_permutation (λ entry. nat_lt value entry.1) (entries_of items) entries shows.same;
          ascending = ascends_filter name_of name_cmp (λ entry. nat_lt value entry.1) entries shows.ascending;
        }))

    pub kept_answered : (count dropped : ℕ) → count ≡ length new → dropped ≡ length items - length new → AnswersPlainly kind (Keep value) entries (reply_text (Kept count dropped)) new
    kept_answered count dropped e f =
        let many = length_shown items entries shows in
        let left = length_shown new (greater value entries) kept_shown in
        record {
          text = ap₂ (λ m n. codes "kept " ++ decimal m ++ codes " dropped " ++ decimal n) (e ∙ sym left) (f ∙ ap₂ (λ m n. m - n) (sym many) (sym left));
          after = kept_shown;
        }

module _ (kind : Kind) (name : List ℕ) (value : ℕ) where
  -- a request that makes an entry of the name: its reply if one exists, if the map is full, and else
  abbrev pub MakesEntry : Request → List ℕ → Type 0
  MakesEntry request made = (entries : List answer.Entry)
      → ((on_old : answer.Entry → List ℕ) × (line_reply kind request entries ≡ option_map_or on_old (entry_named name entries) (cond (is_full entries) (codes "refused capacity") made)))
      × ((on_old : answer.Entry → List answer.Entry) × (entries_after kind request entries ≡ option_map_or on_old (entry_named name entries) (cond (is_full entries) entries (items_with name_of name_cmp (name, value) entries))))

  pub add_makes : MakesEntry (Add name value) (reply_text Added)
  add_makes entries = ((_, refl), (_, refl))

  pub put_makes : MakesEntry (Put name value) (reply_text New)
  put_makes entries = ((_, refl), (_, refl))

-- x is an entry of the name
module _ (kind : Kind) (x : Entry) (items : List Entry) (name : List ℕ) (same : string_bytes x.name ≡ name) (new : List Entry) where
  abbrev akin : Option Entry
  akin = find_item by_name (λ k. bytes_eq (string_bytes x.name) (string_bytes k)) items

  -- if none of the name exists, `add` and `put` ask whether there is room
  module _ (absent : akin ≡ None) (entries : List answer.Entry) (shows : ShowsEntries items entries) where
    none_named : entry_named name entries ≡ None
    none_named = subst (λ n. entry_named n entries ≡ None) same (absent_shown (string_bytes x.name) items entries shows absent)

    pub asks_room : {A : Type 0} (on_old : answer.Entry → A) (full made : A) (b : Bool) → is_full entries ≡ b → option_map_or on_old (entry_named name entries) (cond (is_full entries) full made) ≡ cond b full made
    asks_room on_old full made b e = rw none_named (rw e refl)

    pub has_room : length items < max_items → is_full entries ≡ false
    has_room few = ne_eqb (length entries) max_items (λ e. omega (arith, few, e, length_shown items entries shows))

    has_no_room : length items ≡ max_items → is_full entries ≡ true
    has_no_room full = eq-eqb (length entries) max_items (length_shown items entries shows ∙ full)

    pub placed_shown : AddsItem x items new → ShowsEntries new (items_with name_of name_cmp (name, x.value) entries)
    placed_shown adds =
        let adds_entry : AddsItem (entry_of x) (entries_of items) (entries_of new) = record {
          place = adds.place;
          within = omega (arith, adds.within, length-map items entry_of);
          put = ap entries_of adds.put ∙ insert-map entry_of items adds.place x;
        } in
        subst (λ n. ShowsEntries new (items_with name_of name_cmp (n, x.value) entries)) same
        (shown_by new _ (placed_in_order name_of nat_list_eq_equiv nat_list_cmp_total texts_ties (entry_of x) (entries_of items) (entries_of new) entries adds_entry (absent_shown (string_bytes x.name) items entries shows absent) (order items entries shows)))

  module _ (absent : akin ≡ None) (request : Request) (made : LineReply) (makes : MakesEntry kind name x.value request (reply_text made)) (entries : List answer.Entry) (shows : ShowsEntries items entries) where
    -- the entry is in
    pub made_plainly : length items < max_items → AddsItem x items new → AnswersPlainly kind request entries (reply_text made) new
    made_plainly few adds = let (text, after) = makes entries in let room = has_room absent entries shows few in record {
      text = sym (text.1 ∙ asks_room absent entries shows text.0 _ _ false room);
      after = subst (ShowsEntries new) (sym (after.1 ∙ asks_room absent entries shows after.0 _ _ false room)) (placed_shown absent entries shows adds);
    }

    -- the map is full
    pub full_plainly : length items ≡ max_items → new ≡ items → AnswersPlainly kind request entries (reply_text RefusedCapacity) new
    full_plainly full stays = let (text, after) = makes entries in let none = has_no_room absent entries shows full in record {
      text = sym (text.1 ∙ asks_room absent entries shows text.0 _ _ true none);
      after = subst (ShowsEntries new) (sym (after.1 ∙ asks_room absent entries shows after.0 _ _ true none)) (subst (λ is. ShowsEntries is entries) (sym stays) shows);
    }

  module _ (y : Entry) (there : akin ≡ Some y) where
    one_named : (entries : List answer.Entry) → ShowsEntries items entries → entry_named name entries ≡ Some (entry_of y)
    one_named entries shows = subst (λ n. entry_named n entries ≡ Some (entry_of y)) same (there_shown (string_bytes x.name) items entries shows y there)

    pub duplicate_answered : (told : Bor (List ℕ)) (value : ℕ) → told.now ≡ name → value ≡ y.value → new ≡ items → AnswersRequest kind (Add name x.value) items (Duplicate told value) new
    duplicate_answered told value e old_value stays = λ entries shows. record {
      text = rw (one_named entries shows) (ap (λ n. codes "duplicate " ++ n ++ codes " " ++ decimal value) e ∙ ap (λ v. codes "duplicate " ++ name ++ codes " " ++ decimal v) old_value);
      after = rw (one_named entries shows) (subst (λ is. ShowsEntries is entries) (sym stays) shows);
    }

    put_shown : new ≡ items_overwritten by_name (λ k. bytes_eq (string_bytes x.name) (string_bytes k)) x items → (entries : List answer.Entry) → ShowsEntries items entries → ShowsEntries new (items_overwritten name_of (bytes_eq name) (name, x.value) entries)
    put_shown after entries shows = subst (λ n. ShowsEntries new (items_overwritten name_of (bytes_eq n) (n, x.value) entries)) same
        (shown_by new _ (subst (λ es. InOrder es (items_overwritten name_of (bytes_eq (string_bytes x.name)) (entry_of x) entries)) (sym (ap entries_of after ∙ replaced-map entry_of name_of (bytes_eq (string_bytes x.name)) x items))
        (replaced_in_order name_of nat_list_eq_equiv nat_list_cmp_total texts_ties (entry_of x) (λ k alike. (bytes_decides (string_bytes x.name) k).0 alike) (entries_of items) entries (order items entries shows))))

    pub replaced_answered : new ≡ items_overwritten by_name (λ k. bytes_eq (string_bytes x.name) (string_bytes k)) x items → AnswersRequest kind (Put name x.value) items (Replaced y.value) new
    replaced_answered after = λ entries shows. record {
      text = rw (one_named entries shows) refl;
      after = rw (one_named entries shows) (put_shown after entries shows);
    }

module _ (kind : Kind) (name : List ℕ) (value : ℕ) (items new : List Entry) where
  -- the reply to `set`
  pub set_absent : find_item by_name (λ k. bytes_eq name (string_bytes k)) items ≡ None → new ≡ items → AnswersRequest kind (Set name value) items Absent new
  set_absent absent stays = λ entries shows. record {
    text = rw (absent_shown name items entries shows absent) refl;
    after = rw (absent_shown name items entries shows absent) (subst (λ is. ShowsEntries is entries) (sym stays) shows);
  }

  pub set_found : (x : Entry) → find_item by_name (λ k. bytes_eq name (string_bytes k)) items ≡ Some x → new ≡ items_overwritten by_name (λ k. bytes_eq name (string_bytes k)) (record x { value = value }) items → AnswersRequest kind (Set name value) items (Written x.value) new
  set_found x found after =
      let test : Entry → Bool = λ entry. bytes_eq name (string_bytes entry.name) in
      let same : string_bytes x.name ≡ name = sym ((bytes_decides name (string_bytes x.name)).0 (subst (Tells test items) found (find_tells test items)).1) in
      let written : Entry = record x { value = value } in
      let there = subst (λ n. find_item by_name (λ k. bytes_eq n (string_bytes k)) items ≡ Some x) (sym same) found in
      let put = subst (λ n. new ≡ items_overwritten by_name (λ k. bytes_eq n (string_bytes k)) written items) (sym same) after in
      λ entries shows. record {
        text = rw (there_shown name items entries shows x found) refl;
        after = rw (there_shown name items entries shows x found) (put_shown kind written items name same new x there put entries shows);
      }
