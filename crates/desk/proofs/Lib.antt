pub mod Law
pub mod Working
pub mod Room
