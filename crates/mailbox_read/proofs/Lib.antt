pub mod Moves
pub mod Nth
pub mod Passing
