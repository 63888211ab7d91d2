-- What is proved of the reader, and the lemmas for it.
pub mod Blanks
pub mod First
pub mod Kept
pub mod Exactly
pub mod Defaults
pub mod Codes
