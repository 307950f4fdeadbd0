pub mod Blame
pub mod Clearing
pub mod Faults
pub mod Reading
pub mod Rewriting
pub mod Tree
