pub mod Handed
pub mod Numbers
