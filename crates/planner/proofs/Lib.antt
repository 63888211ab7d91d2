-- What is proved of the text, and the laws for it.
pub mod Pieces
pub mod Joining
pub mod Asking
