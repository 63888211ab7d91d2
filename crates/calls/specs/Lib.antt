-- What a reader of this crate must believe.
pub mod Calls
pub mod Built
pub mod Named
