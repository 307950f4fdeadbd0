pub mod Rows
pub mod Growing
pub mod Children
pub mod ListChildren
pub mod Refusal
pub mod Listed
pub mod Tally
