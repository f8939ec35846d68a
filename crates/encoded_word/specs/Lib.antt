pub mod Writing
pub mod Rule
pub mod Inner
pub mod Cases
