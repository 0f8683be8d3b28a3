pub mod Mails
pub mod Inside
