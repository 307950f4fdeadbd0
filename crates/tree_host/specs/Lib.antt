pub mod HostStore
pub mod Walk
