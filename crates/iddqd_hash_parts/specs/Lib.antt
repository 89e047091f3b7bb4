pub mod HashChanges
pub mod HashItems
pub mod SlotOrder
pub mod SlotsFound
pub mod StoreAndIndex
