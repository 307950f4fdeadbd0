pub mod Field
pub mod Plain
pub mod Refusal
