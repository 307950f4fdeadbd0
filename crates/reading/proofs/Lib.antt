pub mod Fields
pub mod Lists
pub mod Literals
pub mod Numbers
pub mod Refusals
pub mod Repeats
