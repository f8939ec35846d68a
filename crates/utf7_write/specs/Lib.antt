pub mod Stretch
pub mod Ahead
pub mod Values
pub mod Begun
