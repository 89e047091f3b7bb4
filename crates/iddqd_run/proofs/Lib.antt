pub mod AddAllLemmas
mod AscendLemmas
mod EndLemmas
pub mod NameOrderLemmas
pub mod ReplyLemmas
pub mod ShownLemmas
