pub mod Kept
pub mod Round
pub mod Spans
pub mod Located
pub mod ReadsBack
pub mod OneSpelling
pub mod Cases
