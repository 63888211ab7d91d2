-- What a reader of this crate must believe.
pub mod Numbers
pub mod Answers
pub mod Plans
