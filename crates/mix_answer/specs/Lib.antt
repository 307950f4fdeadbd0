pub mod Answer
pub mod Plans
pub mod Refusal
pub mod Reply
pub mod Says
pub mod Status
pub mod Texts
