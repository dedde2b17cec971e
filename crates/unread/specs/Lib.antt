pub mod Unread
pub mod Kinds
pub mod Complete
pub mod Answers
pub mod Runs
