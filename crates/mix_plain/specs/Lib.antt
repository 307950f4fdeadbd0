pub mod Cleans
pub mod Compile
pub mod Filling
pub mod Site
pub mod Tells
pub mod Texts
