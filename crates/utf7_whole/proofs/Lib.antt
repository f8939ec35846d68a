pub mod Tokens
pub mod Buffers
pub mod Judged
pub mod Agreed
pub mod Mailbox
