pub mod Questions
pub mod Sending
pub mod Talks
pub mod Waiting
