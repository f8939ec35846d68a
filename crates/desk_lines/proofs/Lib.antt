pub mod Found
pub mod Law
pub mod Cases
pub mod Room
