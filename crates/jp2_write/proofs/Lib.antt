pub mod Cells
pub mod Turns
pub mod Counting
pub mod Putting
