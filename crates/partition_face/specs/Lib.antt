pub mod Counts
pub mod Links
pub mod Makers
pub mod MemLinks
pub mod MemSpawners
pub mod Runs
pub mod Spawners
