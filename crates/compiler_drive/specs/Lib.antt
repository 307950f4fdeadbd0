pub mod Command
pub mod Drive
