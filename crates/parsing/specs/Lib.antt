pub mod Parsing
pub mod Digits
pub mod Cases
