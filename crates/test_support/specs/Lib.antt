pub mod Changed
pub mod FewBits
pub mod Respelled
