pub mod WordBits
pub mod Membership
pub mod Deciding
pub mod Judging
pub mod Contents
pub mod Counting
pub mod Agreement
