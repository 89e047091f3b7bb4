-- What contracts of an ordered map say, for callers who cite them. That its items ascend by key is `Ascends`, of `Contents`.
--     OrdInserts, OrdKeeps      an item was inserted; nothing has changed but the room, which may have grown
--     OrdFills      items were inserted
--     OrdOverwrites, map_overwritten      an item replaced the one of an equal key, or was inserted
--     ReturnsItem, RefusesItem      what a refusal returns, and why
--     empty_map      a map without items and slots
--     map_after_insertion, map_after_extension, lends_nothing      what the map is once the result of such a call is dropped
--     have_equal_items      what `==` of two maps returns
--     lent_map, lent_slot, lent_item, guard_lender, lent_with      what a guard lends
--     GuardFinds, GuardOverwrites, GuardKeeps, GuardKeepsAkin      the item that a guard lends, and what a write leaves
--     GuardReadsAt, GuardWritesAt      the same of the item at a position
--     shown_map, shown_item, shown_lender      what `into_ref` shows
--     lends_item, item_follows, guard_follows, rests_at_none, with_item_in_slot      what a guard leaves
--     Occupied, Vacant, entry_map, entry_lender, entry_item, entry_slot, entry_with, entry_others      what an entry holds
--     IsEntryOf, IsEntryFor, IsEntryAt, IsFirstEntry, IsLastEntry      whose entry it is
--     LendsFound, LendsInserted, ShowsFound, ShowsInserted, EntersInserted      what an entry lends, shows or returns of its item
--     LacksKeyOf, HasKeyOf, VisitsEntry      what an insertion and a visit ask, and what a visit leaves
--     EntryKeeps, EntryKeepsAkin, entry_follows, rests_if_refused, rests_without_entry      what an entry leaves
--     IsPlaceAmong, IsIndexOf, number_less, position_of      where a query stands among the items
--     is_from, is_up_to, is_between, items_between, bound_now, FindsLast, IsPart      what lies between two bounds
--     FindsRange, RemovesRange      the same of a range's bounds, found or removed
--     FindsPositions, items_at, items_to, WalksPart      the items at the positions of a range, and what a walk over a part of the map gives
--     walk_map, walk_lender, walk_done, walk_with      what a walk that lends items for writing holds
--     WalkKeeps, WalkKeepsAkin, walk_lends      what a step of such a walk leaves
pub use Rattle.iddqd_ord.specs.OrdMap.{OrdFills, OrdInserts, OrdKeeps, OrdOverwrites, empty_map, map_after_extension, map_after_insertion, have_equal_items, lends_nothing, map_overwritten}
pub use Rattle.iddqd_ord.specs.Guard.{GuardFinds, GuardKeeps, GuardKeepsAkin, GuardOverwrites, GuardReadsAt, GuardWritesAt, guard_follows, item_follows, lends_item, lent_item, lent_map, guard_lender, lent_slot, lent_with, rests_at_none, shown_item, shown_map, shown_lender, with_item_in_slot}
pub use Rattle.iddqd_ord.specs.declared.id_ord_map.entry.Entry.TheVariants.{Occupied, Vacant}
pub use Rattle.iddqd_ord.specs.Entry.{EntersInserted, EntryKeeps, EntryKeepsAkin, HasKeyOf, IsEntryAt, IsEntryFor, IsEntryOf, IsFirstEntry, IsLastEntry, LacksKeyOf, LendsFound, LendsInserted, ShowsFound, ShowsInserted, VisitsEntry, entry_follows, entry_item, entry_map, entry_lender, entry_others, entry_slot, entry_with, rests_if_refused, rests_without_entry}
pub use Rattle.iddqd_ord.specs.WritingWalk.{WalkKeeps, WalkKeepsAkin, walk_done, walk_lends, walk_map, walk_lender, walk_with}
pub use Rattle.iddqd_ord.specs.Ranges.{FindsLast, FindsPositions, FindsRange, IsIndexOf, IsPart, RemovesRange, WalksPart, bound_now, is_between, is_from, is_up_to, items_at, items_between, items_to, number_less}
pub use Rattle.iddqd_ord_index.specs.Search.{IsPlaceAmong, position_of}
