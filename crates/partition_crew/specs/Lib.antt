pub mod Build
pub mod Station
pub mod Work
