pub mod Growing
pub mod Failing
pub mod Holding
pub mod Seen
pub mod HomeLemmas
pub mod StoryHomes
pub mod Later
pub mod Calls
pub mod Handing
pub mod Looking
pub mod Giving
pub mod Closing
pub mod Beginning
mod Walks
