-- What a caller in C must believe.
pub mod Replies
pub mod Plans
pub mod Lines
pub mod Starts
pub mod Refusals
