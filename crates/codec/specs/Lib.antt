pub mod Kinds
pub mod Cases
pub mod Demand
pub mod Sizes
pub mod Numbers
