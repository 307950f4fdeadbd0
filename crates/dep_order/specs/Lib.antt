pub mod Graph
pub mod Listing
pub mod Cycle
pub mod Reach
pub mod Pending
pub mod Search
pub mod Ordered
