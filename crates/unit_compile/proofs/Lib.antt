pub mod NumberLemmas
pub mod FaceLemmas
pub mod ReadLemmas
pub mod SaidLemmas
pub mod NeedLemmas
pub mod WarningLemmas
pub mod SourceLemmas
pub mod ProductLemmas
