pub mod Puts
pub mod Keeping
