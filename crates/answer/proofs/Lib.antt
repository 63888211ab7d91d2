-- What is proved of the answer and its line, and the laws for them.
pub mod Lines
pub mod Default
pub mod Theorems
pub mod InTurn
pub mod Value
