pub mod AmongLemmas
pub mod ClearLemmas
pub mod KeptLemmas
pub mod LeftLemmas
pub mod RewriteLemmas
