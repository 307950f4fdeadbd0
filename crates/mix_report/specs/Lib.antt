pub mod App
pub mod Report
pub mod Trace
