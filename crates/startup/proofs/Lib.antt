-- What is proved of this crate.
pub mod Polls
pub mod Runs
pub mod Walking
pub mod Starting
pub mod Leaving
pub mod Silent
pub mod Told
pub mod View
pub mod Demands
pub mod Refusals
pub mod Ends
pub mod Examples
