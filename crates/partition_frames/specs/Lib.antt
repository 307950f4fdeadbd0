pub mod Field
pub mod Frame
pub mod Pieces
pub mod Reading
pub mod Sizes
pub mod Stream
