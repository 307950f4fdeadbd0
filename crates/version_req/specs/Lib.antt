pub mod Condition
pub mod Grammar
pub mod Machine
pub mod Meaning
pub mod Reading
pub mod Refusal
pub mod Stops
pub mod Version
