-- What a reader of this crate must believe.
pub mod Numbers
pub mod Places
pub mod Layout
pub mod Config
pub mod Reading
pub mod WellFormed
pub mod Lowest
