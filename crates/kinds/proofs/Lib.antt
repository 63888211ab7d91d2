-- Laws that belong to no one function.
pub mod Turns
pub mod Numbered
pub mod Check
pub mod Decoding
