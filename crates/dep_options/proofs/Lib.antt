pub mod OneLemmas
pub mod SomeLemmas
pub mod OptionLemmas
pub mod DeclLemmas
pub mod Copies
