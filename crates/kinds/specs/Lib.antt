-- What a reader of this crate must believe.
pub mod Config
pub mod Codes
pub mod Refusals
pub mod Limits
pub mod Setters
pub mod Turns
pub mod Table
