pub mod HonestLemmas
pub mod KeptLemmas
