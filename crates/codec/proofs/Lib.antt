pub mod ByKind
pub mod Worked
pub mod Sizes
pub mod Cases
pub mod Faults
pub mod Demand
pub mod Bounds
