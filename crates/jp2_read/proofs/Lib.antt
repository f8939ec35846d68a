pub mod Moves
pub mod Nth
pub mod Designating
pub mod Passing
