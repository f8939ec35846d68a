pub mod Two
pub mod Stretches
pub mod Values
pub mod Blocks
pub mod Several
pub mod Runs
pub mod Begun
pub mod Marks
