pub mod Cursor
pub mod Escapes
pub mod Passing
