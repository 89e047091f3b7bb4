-- What contracts of a hash map say, for callers who cite them.
--     IsKeyedByText, IsKeyedByTextUnder, IsKeyed      lookups find its items, with text keys and the default hasher, any hasher, or any keys
--     default_hash, random_hash, text_writes      what the default hasher and a `RandomState` return, and what a text writes to them
--     differ_from_keyed      what keyed tells
--     HashItems, holding_of, of_stored_hash, of_same_hash      what contracts see of a map
--     HashesAsKeys      a query hashes as the keys that it stands for
--     HashStays      what stays in each call that changes a keyed map: it is keyed, keeps the spare, and has the same hasher
--     HashInserts, HashKeeps      an item was inserted; nothing has changed but the room, which may have grown
--     HashFills, HashShrinks      items were inserted; the slots were closed up, and memory was given back
--     IsEmptyMap, HasNoItems, SpareFits, KeepsSpare      no item and no room; no item; the room fits the limit; the spare stays
--     Reserves, LacksRoomFor      room was made, or refused
--     HashOverwrites, map_overwritten      an item replaced the one of an equal key, or was inserted
--     Extends, Stops, SpareFirst, KeepsIfNoItem      what `extend` leaves
--     Collects, CollectsUnique, IsCollected      what a map collects
--     RefusesItem, ShowsConflict      what `insert_unique` and `extend_unique` show
--     map_after_insertion, map_after_extension, lends_nothing      what the map is once the result of such a call is dropped
--     HashReturnsItem      an item was refused room, and is returned
--     CloneHashesAlike      what `clone` asks of the hasher
--     lent_map, lent_slot, lent_item, guard_lender, lent_with      what a guard lends
--     GuardFinds, GuardOverwrites, GuardKeeps, GuardKeepsAkin      what it lends, and what may be written through it
--     shown_map, shown_item, shown_lender      what `into_ref` shows
--     lends_item, item_follows, guard_follows, rests_at_none, with_item_in_slot      what a guard leaves
--     Occupied, Vacant, entry_map, entry_lender, entry_item, entry_slot, entry_with, entry_others      what an entry holds
--     IsEntryOf, IsEntryFor, PassesTest      what `entry` finds
--     LacksKeyOf, LacksKeysOf, HasKeyOf, VisitKeepsKey      what the calls of an entry ask of the item
--     LendsFound, LendsInserted, LendsIfOccupied, LendsIfVacant, LendsMade, EntersInserted      what they lend
--     EntryReturnsItem, VisitsEntry, RemovesAt      what else they leave
--     EntryKeeps, EntryKeepsAkin, entry_follows, rests_if_refused, lent_or_kept, guard_or_kept, entry_or_kept      what an entry leaves
--     walk_map, walk_lender, walk_done, walk_with      what a walk that lends items for writing holds
--     WalkKeeps, WalkKeepsAkin, walk_lends      what a step of such a walk leaves
unfoldable pub use Rattle.iddqd_hash.specs.HashItems.{IsKeyed}
pub use Rattle.iddqd_hash.specs.HashItems.{HashItems, HashesAsKeys, IsKeyedByText, IsKeyedByTextUnder, default_hash, differ_from_keyed, holding_of, of_same_hash, of_stored_hash, random_hash, text_writes}
pub use Rattle.iddqd_hash.specs.HashMap.{CloneHashesAlike, Collects, CollectsUnique, Extends, HasNoItems, HashFills, HashReturnsItem, HashInserts, HashKeeps, HashOverwrites, HashShrinks, HashStays, IsCollected, IsEmptyMap, KeepsIfNoItem, KeepsSpare, LacksRoomFor, RefusesItem, Reserves, ShowsConflict, SpareFirst, SpareFits, Stops, map_after_extension, map_after_insertion, lends_nothing, map_overwritten}
pub use Rattle.iddqd_hash.specs.Guard.{GuardFinds, GuardKeeps, GuardKeepsAkin, GuardOverwrites, guard_follows, item_follows, lends_item, lent_item, lent_map, guard_lender, lent_slot, lent_with, rests_at_none, shown_item, shown_map, shown_lender, with_item_in_slot}
pub use Rattle.iddqd_hash.specs.declared.id_hash_map.entry.Entry.TheVariants.{Occupied, Vacant}
pub use Rattle.iddqd_hash.specs.Entry.{EntersInserted, EntryKeeps, EntryKeepsAkin, EntryReturnsItem, HasKeyOf, IsEntryFor, IsEntryOf, LacksKeyOf, LacksKeysOf, LendsFound, LendsIfOccupied, LendsIfVacant, LendsInserted, LendsMade, VisitsEntry, PassesTest, RemovesAt, VisitKeepsKey, entry_follows, entry_item, entry_map, entry_lender, entry_others, entry_slot, entry_or_kept, entry_with, guard_or_kept, lent_or_kept, rests_if_refused}
pub use Rattle.iddqd_hash.specs.WritingWalk.{WalkKeeps, WalkKeepsAkin, walk_done, walk_item, walk_lends, walk_map, walk_lender, walk_with}
