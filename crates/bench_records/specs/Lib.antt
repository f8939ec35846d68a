pub mod Passing
pub mod Turning
pub mod Judging
