pub mod StreamLemmas
pub mod FirstLemmas
pub mod DrawLemmas
pub mod OrderLemmas
pub mod FileLemmas
pub mod TextLemmas
