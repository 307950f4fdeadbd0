pub mod Words
pub mod Reading
pub mod Compile
pub mod Ends
pub mod Laws
