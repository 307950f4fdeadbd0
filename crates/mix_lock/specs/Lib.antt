pub mod Blame
pub mod Terms
pub mod Lock
pub mod Says
pub mod Text
pub mod Refusals
pub mod Said
