-- What is proved of text, and the laws for it.
pub mod Writing
pub mod Digits
pub mod Spacing
pub mod Reading
