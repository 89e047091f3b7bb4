-- What entries of a hash map stand on.
--     same_entry      an entry is told by its map, its slot and its hash
use Rattle.std.proofs.Common.{◌≡◌, Some}
use Rattle.std.proofs.Props.{props}
use Rattle.std.specs.Option.{IsSome}
use mathlib.Core.HLevel.{is_prop→PathP}
use Rattle.iddqd_store.specs.SlotItems.{item_of_slot}
use Rattle.iddqd_hash.specs.declared.id_hash_map.entry.OccupiedEntry.{OccupiedEntry}

pub same_entry : {S T : Type 0} (e : OccupiedEntry T S) (there : IsSome (item_of_slot e.map.now.slots e.map.now.items e.slot)) (listed : item_of_slot e.map.now.slots e.map.now.hashes e.slot ≡ Some e.hash) → record e { there = there; listed = listed } ≡ e
same_entry e there listed i = record e {
  there = is_prop→PathP (λ j. IsSome (item_of_slot e.map.now.slots e.map.now.items e.slot)) (λ j. hlevel props) there e.there i;
  listed = is_prop→PathP (λ j. item_of_slot e.map.now.slots e.map.now.hashes e.slot ≡ Some e.hash) (λ j. hlevel props) listed e.listed i;
}
