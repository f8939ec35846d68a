pub mod File
pub mod Reading
pub mod Calls
pub mod Promises
pub mod Cases
pub mod Inner
