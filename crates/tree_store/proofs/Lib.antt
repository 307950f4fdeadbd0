pub mod EnvironmentLemmas
pub mod FilesLemmas
pub mod KnownLemmas
pub mod MemStoreLemmas
pub mod MomentLemmas
pub mod OrderLemmas
pub mod SourceLemmas
pub mod StoreLemmas
