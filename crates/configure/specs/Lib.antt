-- What a reader of this crate must believe.
pub mod Configure
pub mod Ways
pub mod Examples
