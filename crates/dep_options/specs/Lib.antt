pub mod Blame
pub mod Options
pub mod Said
pub mod Decls
pub mod Stated
