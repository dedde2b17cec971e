pub mod Printed
pub mod Obeyed
pub mod Kept
pub mod Answered
pub mod Prints
