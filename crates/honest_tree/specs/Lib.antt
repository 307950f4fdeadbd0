pub mod Given
pub mod Honest
pub mod KeptOf
