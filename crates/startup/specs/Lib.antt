-- What a reader of this crate must believe.
pub mod Start
pub mod Cuts
pub mod Machine
pub mod Run
