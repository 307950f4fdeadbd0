pub mod Stream
pub mod Dependency
pub mod Texts
pub mod Seen
