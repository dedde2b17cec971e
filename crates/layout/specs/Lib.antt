pub mod Parts
pub mod Entries
pub mod Files
pub mod Words
