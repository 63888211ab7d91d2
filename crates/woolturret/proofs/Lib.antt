-- Laws that belong to no one function.
pub mod Replying
pub mod Planning
pub mod Lining
pub mod Starting
pub mod Untouched
pub mod Ordered
pub mod InTurn
