-- What is proved of the list, each file above those that use it.
pub mod Restart
pub mod Looks
pub mod ByKind
pub mod Homes
pub mod Touched
pub mod Safe
pub mod Calm
pub mod Back
pub mod Few
pub mod Numbered
