pub mod Channel
pub mod Run
