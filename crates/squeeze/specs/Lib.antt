pub mod Tracing
pub mod Folding
