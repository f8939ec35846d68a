pub mod Quick
pub mod Mailbox
