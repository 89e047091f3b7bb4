pub mod AscendLemmas
pub mod ExtendLemmas
pub mod SameCommandLemmas
pub mod SameItemsLemmas
pub mod SameRepliesLemmas
pub mod StepLemmas
