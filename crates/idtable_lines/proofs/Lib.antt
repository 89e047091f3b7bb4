mod Cuts
mod FormLemmas
pub mod NameLemmas
pub mod ValueLemmas
