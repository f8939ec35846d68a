pub mod Rule
pub mod Spans
pub mod Located
pub mod Cases
