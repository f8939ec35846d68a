pub mod Answer
pub mod Output
pub mod Lists
pub mod Ahead
pub mod Bytes
pub mod Inner
pub mod Cases
