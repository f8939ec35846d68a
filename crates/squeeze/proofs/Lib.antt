pub mod Tracing
pub mod Pasting
pub mod Folding
