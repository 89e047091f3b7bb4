-- What an insertion by an item's own key leaves of the store and the index.
--     akin_there      the item of a listed slot, as the map shows it
use Rattle.std.proofs.Common.{◌≡◌, ℕ, ◌∙◌, List, Option, Some, sym}
use Rattle.std.specs.List.{Contains}
use Rattle.iddqd_ord_index.specs.Listed.{listed_items}
use Rattle.iddqd_store.specs.SlotItems.{item_of_slot}
use Rattle.iddqd_store.specs.Store.{Store, item_at}
use Rattle.iddqd_store.proofs.StoreLemmas.{given}
use Rattle.iddqd_store.proofs.WrittenLemmas.{listed_slot}
use Rattle.iddqd_ord.specs.StoreAndIndex.{ListsOccupied}
use Rattle.iddqd_ord.proofs.GetMutLemmas.{item_in_slot}
use Rattle.iddqd_ord.proofs.StoreAndIndexLemmas.{have_slots}

pub akin_there : {T : Type 0} (store : Store T) (slots : List ℕ) (slot : ℕ) (found : Option T) → ListsOccupied store slots → Contains slots slot → item_at store slot ≡ found → (there : T) × (found ≡ Some there) × (item_of_slot slots (listed_items store slots) slot ≡ Some there)
akin_there store slots slot found paired listed e =
    let some = (listed_slot slots (listed_items store slots) slot (have_slots store slots paired).as_many).1 listed in
    let x = given (item_of_slot slots (listed_items store slots) slot) some in
    (x.0, sym e ∙ (sym (item_in_slot store slots slot paired.occupied some) ∙ x.1), x.1)
