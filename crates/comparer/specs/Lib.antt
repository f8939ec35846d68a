pub mod Compare
pub mod Cutting
pub mod Cases
