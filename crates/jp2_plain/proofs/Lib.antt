pub mod Stands
pub mod Escapes
pub mod Cells
pub mod Whole
