pub mod Blame
pub mod Chosen
pub mod Elements
pub mod Refusals
pub mod Said
pub mod Says
