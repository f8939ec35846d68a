pub mod Spelling
pub mod Bringing
pub mod Putting
pub mod Spelt
pub mod Utf7
pub mod Lines
