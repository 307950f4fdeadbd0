pub mod Grammar
pub mod Spells
pub mod Printed
pub mod Printable
