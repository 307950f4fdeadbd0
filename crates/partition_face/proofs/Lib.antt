pub mod CountLemmas
pub mod StartLemmas
pub mod LastingLemmas
