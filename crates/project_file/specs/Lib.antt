pub mod Blame
pub use Rattle.version_req.specs.Version
pub mod Manifest
pub mod Compilers
pub mod Files
pub mod Entries
pub mod Refusals
pub mod Said
