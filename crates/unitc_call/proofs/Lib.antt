pub mod SourceLemmas
pub mod NeedLemmas
pub mod FillLemmas
pub mod CompileLemmas
pub mod CallLemmas
pub mod WordLemmas
pub mod LawLemmas
