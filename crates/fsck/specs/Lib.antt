pub mod Sets
pub mod Blocks
pub mod Sound
pub mod Faults
pub mod Rules
pub mod Usage
