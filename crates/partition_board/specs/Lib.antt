pub mod Holds
pub mod Failures
pub mod Begun
pub mod Homes
pub mod Posts
pub mod Leases
pub mod Answers
pub mod Steps
