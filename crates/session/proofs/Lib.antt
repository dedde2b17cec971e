pub mod Asking
pub mod Entries
pub mod Keeping
pub mod Named
pub mod Obeying
pub mod Ranges
pub mod Stopping
pub mod Texts
