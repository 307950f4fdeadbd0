pub mod Built
pub mod Postings
