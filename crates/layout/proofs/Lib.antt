pub mod Slices
pub mod Chunks
pub mod Codec
pub mod Finding
pub mod Searching
pub mod Copying
